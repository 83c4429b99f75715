-- `records::plain_blocks` meets its contract: a block that is plain does not move the end.
use mathlib.Core.Path.{◌≡◌}
use Prim.Native.Nat.{◌≤◌, ◌-◌}
use lib.ListN.{length}
use Rattle.text_records.specs.Window.{plain_end}
use Rattle.text_records.proofs.plain_blocks.Given as goal

abbrev pub invariant-loop-i : goal.invariant-loop-i
invariant-loop-i l = (l.i ≤ length l.stream) × (plain_end l.stream l.i ≡ plain_end l.stream l.at)

abbrev pub decreases-loop-i : goal.decreases-loop-i
decreases-loop-i l = length l.stream - l.i
