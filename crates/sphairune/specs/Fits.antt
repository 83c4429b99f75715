-- What the function that notes a place asks for. No promise names it.
-- Assumes nothing.
use Rattle.std.specs.Prelude.{[], ◌≡◌, ◌≤◌}
use Rattle.store_desk.specs.Refusal.{Reply, most_places}

-- a place that a word can tell, and nothing told beside a number that is not 0
pub record Telling (a : Reply) : Type 0 where
  pub place : a.place ≤ most_places
  pub mute : (a.number ≡ 0 → ⊥) → a.told ≡ []
