-- `levels_place` meets its contract: the levels of the slot that is found stand behind its head.
use Rattle.store_code.proofs.Found.{find_inside, place_at, place_nowhere}
use Rattle.show.proofs.Laws.{placed_at_lem, placed_none}
use Rattle.show.proofs.levels_place.Goals as goal

pub levels_start-requires : goal.levels_start-requires
levels_start-requires c = record { in_range = c.requires.fitting.range; slot_bound = find_inside _ _ _ c.cue_slot.ensures c.in-Some.is }

pub returns-in-Some : goal.returns-in-Some
returns-in-Some c = placed_at_lem _ (place_at c.cue_slot.ensures c.in-Some.is) c.levels_start.ensures

pub returns-in-None : goal.returns-in-None
returns-in-None c = placed_none _ (place_nowhere c.cue_slot.ensures c.in-None.is)
