-- `write` meets its contract: a refusal leaves the output, and otherwise `put` answers.
use Rattle.std.proofs.lemmas.Result.{err_from_is_err_and}
use Rattle.std.specs.Prelude.{Err, Ok}
use Rattle.show.proofs.Laws.{taken, write_by_lem}
use Rattle.show.specs.Calls.{write_by}
use mathlib.Core.Path.{sym, ◌∙◌}
use Rattle.show.proofs.write.Goals as goal

pub put-requires : goal.put-requires
put-requires c = let t = taken _ _ (sym c.in_ok-turned_away.was ∙ c.turned_away.ensures) in record { fitting = t.0; good_form = t.1 }

pub returns-in_err-turned_away : goal.returns-in_err-turned_away
unfolding write_by
returns-in_err-turned_away c =
    let p = err_from_is_err_and c.from_residual.result c.from_residual.ensures.1 in rw (p.1, p.2)
    (write_by_lem _ _ _ (Err _) (sym c.in_err-turned_away.was ∙ c.turned_away.ensures))

pub returns : goal.returns
unfolding write_by
returns c = c.put.ensures ∙ write_by_lem _ _ _ (Ok tt) (sym c.in_ok-turned_away.was ∙ c.turned_away.ensures)
