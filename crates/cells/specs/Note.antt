-- What goes into a lent list of numbers, as much as it has room for.
-- Assumes nothing.
use Rattle.std.specs.Prelude.{List, [], ◌∷◌, ℕ, suc, set}

-- numbers from place i on; past its end a list keeps what it has
unfoldable pub noted_from : ℕ → List ℕ → List ℕ → List ℕ
noted_from i l [] = l
noted_from i l (v ∷ vs) = noted_from (suc i) (set l i v) vs
