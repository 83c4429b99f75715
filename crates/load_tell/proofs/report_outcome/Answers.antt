-- `report_outcome` meets its contract: of a dropped record in which nothing is ignored the place is the column.
use mathlib.Core.Path.{subst, ◌∙◌}
use Rattle.load.specs.declared.Outcome.{Outcome}
use Rattle.load.specs.Step.{outcome_faults}
use Rattle.load_tell.specs.Count.{Tellable}
use Rattle.load_tell.proofs.Telling.{tellable_place, tellable_report, place_told, column_told, told_single}
use Rattle.load_tell.proofs.report_outcome.Goals as goal

pub report-requires : goal.report-requires
unfolding outcome_faults
report-requires c =
    let t = subst (λ (o : Outcome). Tellable c.args.count c.args.received.now (outcome_faults o)) c.in-Dropped.is c.requires.tellable in
    tellable_report _ t (place_told _ c.requires.marred c.if-not-marred.true (tellable_place _ t))

pub returns-in-Dropped : goal.returns-in-Dropped
unfolding outcome_faults
returns-in-Dropped c =
    let t = subst (λ (o : Outcome). Tellable c.args.count c.args.received.now (outcome_faults o)) c.in-Dropped.is c.requires.tellable in
    rw c.in-Dropped.is (column_told _ _ _ c.report.ensures (place_told _ c.requires.marred c.if-not-marred.true (tellable_place _ t)) ∙ told_single _ _ _)
