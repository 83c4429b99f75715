-- `record_end` meets its contract: the place where the record ends from `i` on is the place where it ends from `at` on, and plain
-- characters do not move it.
use mathlib.Core.Path.{◌≡◌}
use Prim.Native.Nat.{◌≤◌, ◌-◌}
use lib.ListN.{length}
use Rattle.text_records.specs.Stream.{record_end}
use Rattle.text_records.proofs.record_end.Given as goal

abbrev pub invariant-loop-i : goal.invariant-loop-i
invariant-loop-i l = (l.i ≤ length l.stream) × (record_end l.stream l.i ≡ record_end l.stream l.at)

abbrev pub decreases-loop-i : goal.decreases-loop-i
decreases-loop-i l = length l.stream - l.i
