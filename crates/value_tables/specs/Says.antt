-- Appendix C: a cell of a table says a value where its hexadecimal digits are that value.
-- Assumes nothing.
use Rattle.std.specs.Prelude.{Bool, false, ℕ, eqb, None, Option, Some}

unfoldable pub says_of : Option ℕ → ℕ → Bool
says_of None v = false
says_of (Some x) v = eqb x v
