-- `squeeze` meets its contract: the loop's invariant is the law's `Squeezed`.
use Rattle.text_records.proofs.Cleaning.{Squeezed}
use Rattle.text_records.proofs.squeeze.Given as goal

abbrev pub invariant-loop-i : goal.invariant-loop-i
invariant-loop-i l = Squeezed l.initial.s l.s l.n l.i
