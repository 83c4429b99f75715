-- `empty` meets its contract: R2, R3, or the emptied store.
use Rattle.std.proofs.lemmas.Result.{err_from_is_err_and}
use Rattle.std.specs.Prelude.{Err}
use mathlib.Core.Path.{sym, ◌∙◌}
use Rattle.show.proofs.Laws.{lent_fits, empty_by_lem, empty_done}
use Rattle.show.specs.Calls.{empty_by}
use Rattle.show.proofs.empty.Goals as goal

pub empty-requires : goal.empty-requires
empty-requires c = lent_fits _ _ (sym c.in_ok-lent.was ∙ c.lent.ensures)

pub returns-in_err-lent : goal.returns-in_err-lent
unfolding empty_by
returns-in_err-lent c =
    let p = err_from_is_err_and c.from_residual.result c.from_residual.ensures.1 in rw (p.1, p.2)
    (empty_by_lem _ _ (Err _) (sym c.in_err-lent.was ∙ c.lent.ensures))

pub returns : goal.returns
returns c = empty_done _ _ (lent_fits _ _ (sym c.in_ok-lent.was ∙ c.lent.ensures)) c.empty.ensures
