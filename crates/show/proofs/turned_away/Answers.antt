-- `turned_away` meets its contract: what turns away any store comes first, and then the store's form decides.
use Rattle.std.proofs.lemmas.Result.{err_from_is_err_and}
use mathlib.Core.Path.{sym, ◌∙◌}
use Rattle.show.proofs.Laws.{lent_fits, lent_away, lent_formed}
use Rattle.show.proofs.turned_away.Goals as goal

pub formed-requires : goal.formed-requires
formed-requires c = lent_fits _ _ (sym c.in_ok-lent.was ∙ c.lent.ensures)

pub returns-in_err-lent : goal.returns-in_err-lent
returns-in_err-lent c =
    let p = err_from_is_err_and c.from_residual.result c.from_residual.ensures.1 in rw (p.1, p.2)
    (lent_away _ _ (sym c.in_err-lent.was ∙ c.lent.ensures))

pub returns : goal.returns
returns c = lent_formed _ _ (sym c.in_ok-lent.was ∙ c.lent.ensures) c.formed.ensures
