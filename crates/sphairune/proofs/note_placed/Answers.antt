-- `note_placed` meets its contract: a place goes into the list, and every other answer leaves it.
use mathlib.Core.Path.{ap, ◌∙◌}
use Rattle.sphairune.proofs.Laws.{place_most, place_away, place_none, place_at, answer}
use Rattle.sphairune.proofs.note_placed.Goals as goal

pub word-requires : goal.word-requires
word-requires c = place_most c.requires c.in-Err.is

pub returns-in-Err : goal.returns-in-Err
returns-in-Err c = place_away _ c.requires c.in-Err.is c.word.ensures

pub returns-in-None : goal.returns-in-None
returns-in-None c = place_none _ (c.in-Ok.is ∙ ap answer c.in-None.is)

pub returns-in-Some : goal.returns-in-Some
returns-in-Some c = place_at _ (c.in-Ok.is ∙ ap answer c.in-Some.is) c.note_length.ensures
