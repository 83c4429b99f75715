-- A part of a list replaced.
-- Assumes nothing.
use Rattle.std.specs.Prelude.{List, ◌++◌, ℕ, length, take, drop}

-- t, with xs in the place of its elements from place a on
unfoldable pub put : List ℕ → ℕ → List ℕ → List ℕ
put t a xs = take a t ++ (xs ++ drop (length xs) (drop a t))
