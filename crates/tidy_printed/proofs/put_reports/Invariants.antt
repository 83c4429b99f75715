-- `put_reports` meets its contract. The loop's invariant: what is written, with the lines of the reports that are left, is all their lines.
-- The measure is what is left.
use lib.ListN.{length}
use Prim.Native.Nat.{◌-◌}
use Rattle.tidy_printed.proofs.Loops.{Printing}
use Rattle.tidy_printed.proofs.put_reports.Given as goal

abbrev pub invariant-loop-word : goal.invariant-loop-word
invariant-loop-word l = Printing l.initial.out l.at l.reports l.out l.next l.i

abbrev pub decreases-loop-word : goal.decreases-loop-word
decreases-loop-word l = length l.reports - l.i
