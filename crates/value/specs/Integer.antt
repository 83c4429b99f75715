-- Integers (§7.2; paper 01, "Records": an integer is one or more digits; leading zeros are fine, and a long one is too large, never wrapped).
-- Assumes nothing.
use Rattle.std.specs.Prelude.{cond, List, [], ◌∷◌, ℕ, ◌+◌, ◌-◌, ◌*◌, ◌≤◌, min, ltb, leb, None, Option, Some}

-- what the value of a long run is cut at: above every limit of every use
abbrev pub cap : ℕ
cap = 100000

-- what a character counts: 0 to 9, A to F, a to f, and 16 where it is no digit
unfoldable pub digit_of : ℕ → ℕ
digit_of c =
    cond (ltb c 48) 16
    (cond (leb c 57) (c - 48)
    (cond (ltb c 65) 16
    (cond (leb c 70) (c - 55)
    (cond (ltb c 97) 16
    (cond (leb c 102) (c - 87) 16)))))

-- the digits s in radix r, behind the value a of those before them
unfoldable pub digits_from : ℕ → ℕ → List ℕ → Option ℕ
digits_from r a [] = Some (min a cap)
digits_from r a (c ∷ s) = let n = digits_from r (a * r + digit_of c) s in cond (ltb (digit_of c) r) n None

-- one or more digits
unfoldable pub run_of : ℕ → List ℕ → Option ℕ
run_of r [] = None
run_of r (c ∷ s) = digits_from r 0 (c ∷ s)

-- §7.2
unfoldable pub integer_of : List ℕ → Option ℕ
integer_of s = run_of 10 s

-- a value, where there is one, is at most n
abbrev pub AtMost : ℕ → Option ℕ → Type 0
AtMost n None = Unit {0}
AtMost n (Some v) = v ≤ n
