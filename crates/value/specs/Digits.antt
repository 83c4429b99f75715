-- Digits as they stand in a text, read in the scan that finds their end. The laws say what they make of a field (`run_of`). No promise above the
-- load names these.
-- Assumes nothing.
use Rattle.std.specs.Prelude.{Bool, cond, List, [], ◌∷◌, ℕ, ◌+◌, ◌*◌, min, ltb, drop}
use Rattle.cells.specs.Scan.{span}
use Rattle.value.specs.declared.DigitRun.{DigitRun}
use Rattle.value.specs.Integer.{cap, digit_of}

abbrev pub is_digit : ℕ → ℕ → Bool
is_digit r c = ltb (digit_of c) r

-- the value of the digits at the front, behind the value a of those before them
unfoldable pub value_from : ℕ → ℕ → List ℕ → ℕ
value_from r a [] = min a cap
value_from r a (c ∷ s) = let n = value_from r (a * r + digit_of c) s in cond (is_digit r c) n (min a cap)

-- the digits from a place on: their value, and where they end
unfoldable pub digits_at : ℕ → List ℕ → ℕ → DigitRun
digits_at r text at = record { value = value_from r 0 (drop at text); end = at + span (is_digit r) (drop at text) }
