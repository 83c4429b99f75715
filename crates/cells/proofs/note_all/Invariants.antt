-- `note_all` meets its contract. The loop's invariant: what is left to note goes in from place i on.
use Rattle.cells.proofs.Noted.{Noting}
use Rattle.cells.proofs.note_all.Given as goal

abbrev pub invariant-loop-i : goal.invariant-loop-i
invariant-loop-i l = Noting l.initial.list l.values l.list l.i
