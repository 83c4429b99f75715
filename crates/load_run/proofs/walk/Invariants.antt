-- `walk` meets its contract: what is read so far stands in front of the run of what is left of the stream, and what was noted of it is in
-- the book. The lent list of faults keeps its length.
use Rattle.load_run.proofs.Turn.{SoFar}
use Rattle.load_items.specs.Done.{most_faults}
use lib.ListN.{length}
use Prim.Native.Nat.{◌-◌}
use mathlib.Core.Path.{◌≡◌}
use Rattle.load_run.proofs.walk.Given as goal

abbrev pub invariant-loop-at : goal.invariant-loop-at
invariant-loop-at g l =
    let m = g.N.Naming in
    SoFar m.numbers m.within m.after l.desk l.initial.store l.initial.reports l.initial.book l.stream l.done l.at l.store l.reports l.book × (length l.faults ≡ most_faults)

abbrev pub decreases-loop-at : goal.decreases-loop-at
decreases-loop-at g l = length l.stream - l.at
