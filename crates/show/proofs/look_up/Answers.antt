-- `look_up` meets its contract: a refusal hands out the empty part at the store's start, and otherwise `levels_of` answers.
use Rattle.std.specs.Prelude.{Err, Ok}
use Rattle.show.proofs.Laws.{taken, look_by_lem, looked, looked_as}
use Rattle.show.proofs.Refusals.{away_most}
use Rattle.show.specs.Calls.{look_by}
use mathlib.Core.Path.{refl, sym, ◌∙◌}
use native.Mathlib.Omega.{arith}
use Rattle.show.proofs.look_up.Goals as goal

pub word-requires : goal.word-requires
word-requires c = away_most _ _ (sym c.in-Err.is ∙ c.turned_away.ensures)

pub levels_of-requires : goal.levels_of-requires
levels_of-requires c = let t = taken _ _ (sym c.in-Ok.is ∙ c.turned_away.ensures) in record { fitting = t.0; good_form = t.1 }

pub returns-in-Err : goal.returns-in-Err
unfolding look_by
returns-in-Err c = looked _ (look_by_lem _ _ _ _ _ (Err _) (sym c.in-Err.is ∙ c.turned_away.ensures)) c.word.ensures refl refl (omega arith)

pub returns-in-Ok : goal.returns-in-Ok
unfolding look_by
returns-in-Ok c = looked_as (look_by_lem _ _ _ _ _ (Ok tt) (sym c.in-Ok.is ∙ c.turned_away.ensures)) c.levels_of.ensures
