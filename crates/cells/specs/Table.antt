-- A table computed from a rule.
-- Assumes nothing.
use Rattle.std.specs.Prelude.{List, [], ◌∷◌, ℕ, zero, suc}

-- the n entries f k, f (k + 1), ..
unfoldable pub tab : {A : Type 0} → (ℕ → A) → ℕ → ℕ → List A
tab f k zero = []
tab f k (suc n) = let r = tab f (suc k) n in f k ∷ r
