-- `levels_of` meets its contract: the slot that is found holds the levels, and an empty part lies at the store's start.
use Rattle.show.proofs.Laws.{looked_at, look_none, looked}
use Rattle.show.specs.Calls.{not_kept_word}
use Rattle.store_code.proofs.Found.{find_inside, place_at, place_nowhere}
use mathlib.Core.Path.{refl}
use native.Mathlib.Omega.{arith}
use Rattle.show.proofs.levels_of.Goals as goal

pub levels-requires : goal.levels-requires
levels-requires c = record { fitting = c.requires.fitting; slot_bound = find_inside _ _ _ c.cue_slot.ensures c.in-Some.is }

pub returns-in-Some : goal.returns-in-Some
returns-in-Some c = looked_at _ _ _ (place_at c.cue_slot.ensures c.in-Some.is) c.levels.ensures

pub returns-in-None : goal.returns-in-None
returns-in-None c = looked not_kept_word (look_none _ _ _ (place_nowhere c.cue_slot.ensures c.in-None.is)) refl refl refl (omega arith)
