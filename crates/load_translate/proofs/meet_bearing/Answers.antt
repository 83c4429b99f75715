-- `meet_bearing` meets its contract: a record that bears nothing, a CUE that was refused, and one that was accepted, with a number and with none.
use Rattle.std.proofs.Common.{ap, not}
use Rattle.load_translate.proofs.Walking.{none_met, refused_met, unnumbered_met, numbered_met}
use Rattle.load_translate.proofs.meet_bearing.Goals as goal

pub returns-in_default : goal.returns-in_default
returns-in_default c = none_met _ _ _ _ c.in_default.is

pub returns-then-not-is_mark : goal.returns-then-not-is_mark
returns-then-not-is_mark c = refused_met _ _ _ _ c.in-Some.is c.is_mark.ensures (ap not c.if-not-is_mark.true)

pub returns-then-number-ne-NO_NUMBER : goal.returns-then-number-ne-NO_NUMBER
returns-then-number-ne-NO_NUMBER c = numbered_met _ _ _ _ c.in-Some.is c.is_mark.ensures (ap not c.if-not-is_mark.false) c.if-number-ne-NO_NUMBER.true c.meet.ensures

pub returns-else-number-ne-NO_NUMBER : goal.returns-else-number-ne-NO_NUMBER
returns-else-number-ne-NO_NUMBER c = unnumbered_met _ _ _ _ c.in-Some.is c.is_mark.ensures (ap not c.if-not-is_mark.false) c.if-number-ne-NO_NUMBER.false
