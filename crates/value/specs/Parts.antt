-- A field cut in parts at a character (§7.4's point, §7.7's and §8.4's colon).
-- Assumes nothing.
use Rattle.std.specs.Prelude.{Bool, cond, not, List, ℕ, ◌+◌, eqb, ltb, leb, length, take, drop, None, Option, Some}
use Rattle.cells.specs.Scan.{span}
use Rattle.value.specs.Integer.{integer_of}

abbrev pub point : ℕ
point = 46

abbrev pub colon : ℕ
colon = 58

abbrev pub is_other : ℕ → ℕ → Bool
is_other b c = not (eqb c b)

-- where the first b stands, or the length
unfoldable pub cut_at : ℕ → List ℕ → ℕ
cut_at b s = span (is_other b) s

-- what stands before place n and, where there is something at n, behind it
abbrev pub before : ℕ → List ℕ → List ℕ
before n s = take n s

abbrev pub after : ℕ → List ℕ → List ℕ
after n s = drop (n + 1) s

abbrev pub within : ℕ → List ℕ → Bool
within n s = ltb n (length s)

-- an integer of at most `most` digits
abbrev pub few_of : ℕ → List ℕ → Option ℕ
few_of most s = cond (leb (length s) most) (integer_of s) None

-- the digits behind a point at n; 0 where there is none
unfoldable pub decimals_of : ℕ → List ℕ → ℕ → Option ℕ
decimals_of most s n = cond (within n s) (few_of most (after n s)) (Some 0)
