-- `levels` meets its contract: a refusal is handed on, and otherwise `levels_at` answers.
use Rattle.std.proofs.lemmas.Result.{err_from_is_err_and}
use Rattle.std.specs.Prelude.{Err, Ok}
use mathlib.Core.Path.{sym, ◌∙◌}
use Rattle.show_read.proofs.Laws.{levels_by_lem}
use Rattle.show_read.specs.Calls.{levels_by}
use Rattle.show.proofs.Laws.{lent_fits}
use Rattle.show_read.proofs.levels.Goals as goal

pub levels_at-requires : goal.levels_at-requires
levels_at-requires c = (lent_fits _ _ (sym c.in_ok-lent.was ∙ c.lent.ensures)).range

pub returns-in_err-lent : goal.returns-in_err-lent
unfolding levels_by
returns-in_err-lent c =
    let p = err_from_is_err_and c.from_residual.result c.from_residual.ensures.1 in rw (p.1, p.2)
    (levels_by_lem _ _ _ (Err _) (sym c.in_err-lent.was ∙ c.lent.ensures))

pub returns : goal.returns
unfolding levels_by
returns c = c.levels_at.ensures ∙ levels_by_lem _ _ _ (Ok tt) (sym c.in_ok-lent.was ∙ c.lent.ensures)
