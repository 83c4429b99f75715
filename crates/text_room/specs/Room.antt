-- What a call that writes a text asks for.
-- Assumes nothing.
use Rattle.std.specs.Prelude.{List, ℕ, ◌+◌, ◌≤◌, length}

-- t has room for xs from place a on
pub record Room (t : List ℕ) (a : ℕ) (xs : List ℕ) : Type 0 where
  pub fits : a + length xs ≤ length t
