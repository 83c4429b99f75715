-- What the source rules allow in a line (001 §5.1; paper 01, "Records"): at most 80 characters, each 20 to 7E hex and no `!`, which would
-- end the record early.
-- Assumes nothing.
use Rattle.std.specs.Prelude.{Bool, not, ◌&&◌, List, [], ◌∷◌, ◌≡◌, ℕ, ◌≤◌, eqb, leb, length}
use Rattle.cells.specs.Scan.{span}

unfoldable pub is_source : ℕ → Bool
is_source c = (leb 32 c && leb c 126) && not (eqb c 33)

pub record Ruled (l : List ℕ) : Type 0 where
  pub short : length l ≤ 80
  pub source : span is_source l ≡ length l

-- each line of a list
abbrev pub AllRuled : List (List ℕ) → Type 0
AllRuled [] = Unit
AllRuled (l ∷ ls) = Ruled l × AllRuled ls
