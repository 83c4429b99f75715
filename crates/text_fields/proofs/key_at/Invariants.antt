-- `text_fields::key_at` meets its contract: the key so far is that of the characters before `i`, by the laws of the key made on the way.
use Rattle.text_fields.proofs.Runs.{Keying}
use Rattle.text_fields.proofs.key_at.Given as goal

abbrev pub invariant-loop-i : goal.invariant-loop-i
invariant-loop-i l = Keying l.text l.at l.key l.unit l.i
