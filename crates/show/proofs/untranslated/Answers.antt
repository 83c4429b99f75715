-- `untranslated` meets its contract: as any call on a store is turned away, and then by the desk's groups and submasters.
use mathlib.Core.Path.{sym, ◌∙◌}
use Rattle.std.proofs.lemmas.Result.{err_from_is_err_and}
use Rattle.show.proofs.Laws.{seven_away, seven_groups, seven_subs, seven_none}
use Rattle.show.proofs.untranslated.Goals as goal
use Rattle.show.proofs.untranslated.Goals.{then-desk-eq0-via-then-desk-eq0, then-desk-eq0-via-else-desk-eq0+then-desk-eq0-2}

pub returns-then-desk-eq0 : goal.returns-then-desk-eq0
returns-then-desk-eq0 c =
    let e = sym c.in_ok-turned_away.was ∙ c.turned_away.ensures in
    elim c.then-desk-eq0.branch [
      | then-desk-eq0-via-then-desk-eq0 w ↦ seven_groups _ _ e w.if-desk-eq0.true
      | then-desk-eq0-via-else-desk-eq0+then-desk-eq0-2 w ↦ seven_subs _ _ e w.if-desk-eq0.false w.if-desk-eq0-2.true
    ]

pub returns-in_err-turned_away : goal.returns-in_err-turned_away
returns-in_err-turned_away c =
    let p = err_from_is_err_and c.from_residual.result c.from_residual.ensures.1 in rw (p.1, p.2)
    (seven_away _ _ (sym c.in_err-turned_away.was ∙ c.turned_away.ensures))

pub returns : goal.returns
returns c = seven_none _ _ (sym c.in_ok-turned_away.was ∙ c.turned_away.ensures) c.if-desk-eq0.false c.if-desk-eq0-2.false
