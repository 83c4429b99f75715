-- `patch` meets its contract: a refusal is handed on, and otherwise `patch_at` answers.
use Rattle.std.proofs.lemmas.Result.{err_from_is_err_and}
use Rattle.std.specs.Prelude.{Err, Ok}
use mathlib.Core.Path.{sym, ◌∙◌}
use Rattle.show_read.proofs.Laws.{patch_by_lem}
use Rattle.show_read.specs.Calls.{patch_by}
use Rattle.show.proofs.Laws.{lent_fits}
use Rattle.show_read.proofs.patch.Goals as goal

pub patch_at-requires : goal.patch_at-requires
patch_at-requires c = lent_fits _ _ (sym c.in_ok-lent.was ∙ c.lent.ensures)

pub returns-in_err-lent : goal.returns-in_err-lent
unfolding patch_by
returns-in_err-lent c =
    let p = err_from_is_err_and c.from_residual.result c.from_residual.ensures.1 in rw (p.1, p.2)
    (patch_by_lem _ _ _ _ (Err _) (sym c.in_err-lent.was ∙ c.lent.ensures))

pub returns : goal.returns
unfolding patch_by
returns c = c.patch_at.ensures ∙ patch_by_lem _ _ _ _ (Ok tt) (sym c.in_ok-lent.was ∙ c.lent.ensures)
