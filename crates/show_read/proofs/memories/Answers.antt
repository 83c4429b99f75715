-- `memories` meets its contract: a refusal is handed on, and otherwise `list` answers.
use Rattle.std.proofs.lemmas.Result.{err_from_is_err_and}
use Rattle.std.specs.Prelude.{Err, Ok}
use mathlib.Core.Path.{sym, ◌∙◌}
use Rattle.show_read.proofs.Laws.{memories_by_lem}
use Rattle.show_read.specs.Calls.{memories_by}
use Rattle.show.proofs.Laws.{let_in}
use Rattle.show_read.proofs.memories.Goals as goal

pub list-requires : goal.list-requires
list-requires c = let_in _ _ (sym c.in_ok-turned_away.was ∙ c.turned_away.ensures)

pub returns-in_err-turned_away : goal.returns-in_err-turned_away
unfolding memories_by
returns-in_err-turned_away c =
    let p = err_from_is_err_and c.from_residual.result c.from_residual.ensures.1 in rw (p.1, p.2)
    (memories_by_lem _ _ _ _ (Err _) (sym c.in_err-turned_away.was ∙ c.turned_away.ensures))

pub returns : goal.returns
unfolding memories_by
returns c = c.list.ensures ∙ memories_by_lem _ _ _ _ (Ok tt) (sym c.in_ok-turned_away.was ∙ c.turned_away.ensures)
