-- `report_faults` meets its contract: after some turns that many faults are told.
use Rattle.load_tell.proofs.Telling.{told_none, turn_room, turn_told, turn_end}
use Rattle.load_tell.proofs.report_faults.Goals as goal

pub loop-word-init : goal.loop-word-init
loop-word-init c = told_none _ _

pub report_fault-n-requires-clause-tellable : goal.report_fault-n-requires-clause-tellable
report_fault-n-requires-clause-tellable c = turn_room _ _ _ _ _ c.loop-word-test.true c.loop-word.invariant c.fault_in.ensures c.requires.tellable

pub loop-word-preserved : goal.loop-word-preserved
loop-word-preserved c = turn_told _ _ _ _ c.loop-word-test.true c.loop-word.invariant c.fault_in.ensures c.report_fault-n.ensures

pub returns : goal.returns
returns c = turn_end _ _ _ _ c.loop-word-test.false c.loop-word.invariant
