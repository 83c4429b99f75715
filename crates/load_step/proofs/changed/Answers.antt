-- `changed` meets its contract: fields that are wrong, and a change.
use Rattle.load_held.proofs.Holding.{open_slot}
use Rattle.load_held.proofs.Answers.{asked_did, rests_did}
use Rattle.load_step.proofs.Secondaries.{change_fits, change_wrong, change_edits, edits_did}
use Rattle.load_step.proofs.changed.Goals as goal

pub edit-requires : goal.edit-requires
edit-requires c = record { fitting = c.requires.fitting; slot_bound = open_slot _ _ c.requires.held_ready c.requires.fact; editing = change_fits _ c.requires.reading_fits c.in-Ok.is }

pub returns-in-Err : goal.returns-in-Err
returns-in-Err c = asked_did _ _ _ (change_wrong _ c.in-Err.is) (rests_did _ _ _ _ c.answered.ensures)

pub returns-in-Ok : goal.returns-in-Ok
returns-in-Ok c = asked_did _ _ _ (change_edits _ c.in-Ok.is) (edits_did _ _ c.requires.held_ready c.requires.fact _ c.edit.ensures c.answered-in-Ok.ensures)
