-- What a store keeps, as a reader of it sees it: the memory of a name, and a dimmer's patch (paper 01, "The store").
-- Assumes nothing.
use Rattle.std.specs.Prelude.{List, ℕ}
use Rattle.store_desk.specs.declared.Desk.{Desk}
use Rattle.store_desk.specs.Name.{Name, entry_of}
use Rattle.store_head.specs.declared.Head.{Head}
use Rattle.store_head.specs.declared.Patch.{Patch}
use Rattle.store_head.specs.Layout.{decode_patch}
use Rattle.store.specs.Slots.{head_at, levels_at, entry_at, find, on_found}

-- a kept memory: its head (times, link) and the level bytes of its channels
pub record Memory : Type 0 where
  pub head : Head
  pub levels : List ℕ

pub data Kept : Type 0 where
  absent : Kept
  kept : Memory → Kept

unfoldable pub memory_at : Desk → List ℕ → ℕ → Memory
memory_at d s i = record { head = head_at d s i; levels = levels_at d s i }

-- the memory that is kept under a name
unfoldable pub memory_of : Desk → List ℕ → Name → Kept
memory_of d s n = on_found (find d s n) (λ i. kept (memory_at d s i)) absent

-- what a dimmer is patched to on a page; channel 0 is unpatched
unfoldable pub patched_to : Desk → List ℕ → ℕ → ℕ → Patch
patched_to d s page dimmer = decode_patch (entry_at d s (entry_of d page dimmer))
