-- Scanning: how far a class of bytes reaches.
-- Assumes nothing.
use Rattle.std.specs.Prelude.{Bool, cond, List, [], ◌∷◌, ℕ, zero, suc}

-- how many elements from the front of the list pass the test p, up to the first that does not
unfoldable pub span : (ℕ → Bool) → List ℕ → ℕ
span p [] = zero
span p (c ∷ s) = let r = suc (span p s) in cond (p c) r zero
