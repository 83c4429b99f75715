-- `step` meets its contract: with a keyword, and with none.
use Rattle.load_held.proofs.Answers.{asked_all, rests_all}
use Rattle.load_step.proofs.Basics.{step_blank, step_as, step_told}
use Rattle.load_naming.proofs.Fields.{said_line}
use Rattle.load_step.proofs.Booked.{blank_booked, fields_booked}
use Rattle.load_step.proofs.step.Goals as goal

pub obey-requires : goal.obey-requires
obey-requires g c = record { fitting = c.requires.stepping.fitting; counts_fit = c.requires.counts_fit; line = said_line _ c.field_start-start.ensures c.keyword_at-said.ensures c.requires.stepping.short; held_ready = c.requires.stepping.ready; room = c.requires.room }

pub returns-then-start-text : goal.returns-then-start-text
returns-then-start-text g c =
    let r =
    step_told _ _ _ _ _ _ c.requires.stepping.short
    (asked_all _ _ _ _ (step_as _ c.field_start-start.ensures c.keyword_at-said.ensures _ _ _ c.if-start-text.true) c.obey.ensures.faults_after)
    (fields_booked g.N.Naming.laws _ _ c.field_start-start.ensures _ _ c.keyword_at-said.ensures c.if-start-text.true c.obey.ensures.book_after) in
    record { faults_after = r.0; faults_le_most_faults = r.1.0; book_after = r.1.1 }

pub returns : goal.returns
returns g c =
    let r =
    step_told _ _ _ _ _ _ c.requires.stepping.short
    (asked_all _ _ _ _ (step_blank _ _ _ _ c.field_start-start.ensures c.if-start-text.false) (rests_all _ _ _ c.requires.stepping.ready c.ended.ensures _))
    (blank_booked g.N.Naming.laws _ _ c.field_start-start.ensures _ _ c.if-start-text.false) in
    record { faults_after = r.0; faults_le_most_faults = r.1.0; book_after = r.1.1 }
