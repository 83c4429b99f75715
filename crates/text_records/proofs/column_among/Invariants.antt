-- `column_among` meets its contract: behind i characters the column is i, and what is left of it among the others.
use Rattle.std.proofs.Common.{◌≡◌, ◌+◌, drop}
use Rattle.text_records.specs.Cleaning.{column_of}
use Rattle.text_records.proofs.column_among.Given as goal

abbrev pub invariant-loop-i : goal.invariant-loop-i
invariant-loop-i l = l.i + column_of (drop l.i l.received) l.left ≡ column_of l.received l.place
