-- `find` meets its contract: a refusal is handed on, and otherwise `levels_place` answers.
use Rattle.std.proofs.lemmas.Result.{err_from_is_err_and}
use Rattle.std.specs.Prelude.{Err, Ok}
use Rattle.show.proofs.Laws.{taken, find_by_lem}
use Rattle.show.specs.Calls.{find_by}
use mathlib.Core.Path.{sym, ◌∙◌}
use Rattle.show.proofs.find.Goals as goal

pub levels_place-requires : goal.levels_place-requires
levels_place-requires c = let t = taken _ _ (sym c.in_ok-turned_away.was ∙ c.turned_away.ensures) in record { fitting = t.0; good_form = t.1 }

pub returns-in_err-turned_away : goal.returns-in_err-turned_away
unfolding find_by
returns-in_err-turned_away c =
    let p = err_from_is_err_and c.from_residual.result c.from_residual.ensures.1 in rw (p.1, p.2)
    (find_by_lem _ _ _ _ _ (Err _) (sym c.in_err-turned_away.was ∙ c.turned_away.ensures))

pub returns : goal.returns
unfolding find_by
returns c = c.levels_place.ensures ∙ find_by_lem _ _ _ _ _ (Ok tt) (sym c.in_ok-turned_away.was ∙ c.turned_away.ensures)
