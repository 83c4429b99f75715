-- `secondary` meets its contract, by what is open.
use Rattle.load_held.proofs.Answers.{asked_did_all, rests-did_all}
use Rattle.load_step.proofs.Secondaries.{is_open, none_open, secondary_nothing, secondary_skipping, secondary_wrong, secondary_obeyed}
use Rattle.load_step.proofs.secondary.Goals as goal
use Rattle.load_step.proofs.secondary.Goals.{in_default-via-in-Memory+else-augments, in_default-via-in_default}

pub obeyed-requires : goal.obeyed-requires
obeyed-requires c = record { fitting = c.requires.fitting; line = c.requires.line; held_ready = c.requires.held_ready; fact = is_open c.in-Memory.is; room = c.requires.room }

pub returns-in-Memory : goal.returns-in-Memory
returns-in-Memory c = asked_did_all _ _ _ _ (secondary_obeyed _ _ _ _ _ c.in-Memory.is c.augments.ensures c.if-augments.true) c.obeyed.ensures

pub returns-in-Skipping : goal.returns-in-Skipping
returns-in-Skipping c = asked_did_all _ _ _ _ (secondary_skipping _ _ _ _ _ c.in-Skipping.is) (rests-did_all _ _ _ _ c.answered.ensures _)

pub returns-in_default : goal.returns-in_default
returns-in_default c =
    elim c.in_default.branch [
      | in_default-via-in-Memory+else-augments w ↦
          asked_did_all _ _ _ _ (secondary_wrong _ _ _ _ _ w.in-Memory.is w.augments.ensures w.if-augments.false c.blamed_at.ensures) (rests-did_all _ _ _ _ c.answered-in_default.ensures _)
      | in_default-via-in_default w ↦
          asked_did_all _ _ _ _ (secondary_nothing _ _ _ _ _ (none_open _ w.in_default.not-Memory w.in_default.not-Skipping) c.blamed_at.ensures) (rests-did_all _ _ _ _ c.answered-in_default.ensures _)
    ]
