-- What is left of a record: paper 01, "Records (§5)", on ignored characters and `!`.
-- Assumes nothing.
use Rattle.std.specs.Prelude.{Bool, false, cond, not, ◌||◌, List, [], ◌∷◌, ℕ, suc, ◌-◌, eqb, ltb, leb}

-- 80 hex or above (0701)
unfoldable pub is_high : ℕ → Bool
is_high c = leb 128 c

-- 00 to 1F other than tab, and 7F (0702)
unfoldable pub is_control : ℕ → Bool
is_control c = cond (ltb c 32) (not (eqb c 9)) (eqb c 127)

-- `!` ends the record
unfoldable pub is_mark : ℕ → Bool
is_mark c = eqb c 33

-- the characters up to the first `!` that are not ignored
unfoldable pub kept_of : List ℕ → List ℕ
kept_of [] = []
kept_of (c ∷ cs) = let r = kept_of cs in cond (is_mark c) [] (cond (is_high c || is_control c) r (c ∷ r))

-- the column of the n-th of these characters, counted from 1: its place in the record as received, where ignored characters count too. Place 0
-- is none, and has column 0 (paper 02, C-11)
unfoldable pub column_of : List ℕ → ℕ → ℕ
column_of [] n = 0
column_of (c ∷ cs) n = let r = column_of cs (cond (is_high c || is_control c) n (n - 1)) in cond (eqb n 0) 0 (suc r)

-- whether a character of a sort stands anywhere in the record, its comment with it
unfoldable pub has : (ℕ → Bool) → List ℕ → Bool
has p [] = false
has p (c ∷ cs) = p c || has p cs
