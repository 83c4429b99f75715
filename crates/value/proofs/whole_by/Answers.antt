-- `whole_by` meets its contract: no digits, another character behind them, the point, or the end.
use Rattle.std.proofs.Common.{sym, ◌∙◌}
use borrow.Author.Tests.{eqb-true, eqb-false, le-ltb, not-true, not-false}
use Rattle.cells.proofs.Split.{clash}
use Rattle.value.proofs.Wholes.{whole_none, whole_other, whole_points, whole_ends, whole_good}
use Rattle.value.proofs.whole_by.Goals as goal
use Rattle.value.proofs.whole_by.Goals.{then-d-eq0-via-then-d-eq0, then-d-eq0-via-else-d-eq0+then-s-d-ne46, then-d-s, else-d-s}

pub returns-then-d-eq0 : goal.returns-then-d-eq0
returns-then-d-eq0 c =
    elim c.then-d-eq0.branch [
      | then-d-eq0-via-then-d-eq0 w ↦ whole_none _ c.requires w.if-d-eq0.true
      | then-d-eq0-via-else-d-eq0+then-s-d-ne46 w ↦
          elim w.if-d-s.branch [
            | then-d-s w' ↦ whole_other _ c.requires w'.if-d-s.true (eqb-false _ _ (not-true _ (sym w'.value-is ∙ w.if-s-d-ne46.true)))
            | else-d-s w' ↦ clash w.if-s-d-ne46.true (w'.value-is ∙ le-ltb _ _ w'.if-d-s.false)
          ]
    ]

pub returns : goal.returns
returns c =
    elim c.if-d-s.branch [
      | then-d-s w ↦
          whole_good _ c.requires c.if-d-eq0.false
          (whole_points _ c.requires w.if-d-s.true (eqb-true _ _ (not-false _ (sym w.value-is ∙ c.if-s-d-ne46.false))))
      | else-d-s w ↦ whole_good _ c.requires c.if-d-eq0.false (whole_ends _ c.requires w.if-d-s.false)
    ]
