-- `bear` meets its contract: what was met so far stands in front of what the records that are left bear.
use Rattle.load_translate.proofs.Walking.{SoFar}
use lib.ListN.{length}
use Prim.Native.Nat.{◌≤◌}
use Rattle.load_translate.proofs.bear.Given as goal

abbrev pub invariant-loop-n : goal.invariant-loop-n
invariant-loop-n l =
    (length l.initial.found ≤ length l.book.asked) × SoFar l.stream l.book.marks l.book.asked l.initial.found l.records l.seen l.n l.at l.found
