-- `next_field` meets its contract: behind `end` and before `i` there are only delimiters (`Behind`).
use Rattle.text_fields.proofs.Runs.{Behind}
use Rattle.text_fields.proofs.next_field.Given as goal

abbrev pub invariant-loop-i : goal.invariant-loop-i
invariant-loop-i l = Behind l.text l.end l.i
