-- `levels_at` meets its contract: the levels of the slot that is named stand behind its head.
use Rattle.show_read.proofs.Laws.{named_inside}
use Rattle.show.proofs.Laws.{placed_at_lem, placed_none}
use Rattle.store_code.proofs.Found.{place_at, place_nowhere}
use Rattle.show_read.proofs.levels_at.Goals as goal

pub levels_start-requires : goal.levels_start-requires
levels_start-requires c = record { in_range = c.requires; slot_bound = named_inside _ _ c.slot_of.ensures c.in_ok-slot.was }

pub returns : goal.returns
returns c = placed_at_lem _ (place_at c.slot_of.ensures c.in_ok-slot.was) c.levels_start.ensures

pub returns-in_err-slot : goal.returns-in_err-slot
returns-in_err-slot c = rw c.from_residual.ensures (placed_none _ (place_nowhere c.slot_of.ensures c.in_err-slot.was))
