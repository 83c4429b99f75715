-- The parts of the stream that the code writes by themselves.
-- Assumes nothing.
use Rattle.std.specs.Prelude.{cond, List, [], ◌++◌, ℕ}
use Rattle.store_desk.specs.declared.Desk.{Desk}
use Rattle.store_desk.specs.declared.Kind.{Kind}
use Rattle.store_desk.specs.declared.Kind.TheVariants.{Cue, Group, Sub}
use Rattle.store.specs.Slots.{head_at, is_used}
use Rattle.store.specs.View.{memory_at}
use Rattle.save.specs.Lines.{memory_lines, kind_lines}

-- the memories of all kinds
unfoldable pub all_lines : Desk → List ℕ → List (List ℕ)
all_lines d s = kind_lines d s Cue ++ (kind_lines d s Group ++ kind_lines d s Sub)

-- the memory in a slot, if it is used
unfoldable pub used_lines : Desk → List ℕ → Kind → ℕ → List (List ℕ)
used_lines d s k i = cond (is_used (head_at d s i)) (memory_lines k (memory_at d s i)) []
