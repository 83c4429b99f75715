-- `take_items` meets its contract: the faults so far with those from here on are those from the start on, and what is done likewise (`Going`).
-- The measure is what is left of the text.
use Rattle.load_items.proofs.Laws.{Going}
use lib.ListN.{length}
use Prim.Native.Nat.{◌-◌}
use Rattle.load_items.proofs.take_items.Given as goal

abbrev pub invariant-loop-i : goal.invariant-loop-i
invariant-loop-i l = Going l.desk l.group l.text l.at l.aim l.initial.store l.initial.faults l.i l.store l.n l.faults

abbrev pub decreases-loop-i : goal.decreases-loop-i
decreases-loop-i l = length l.text - l.i
