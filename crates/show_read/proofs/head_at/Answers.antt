-- `head_at` meets its contract: the slot that is named is one of the desk's, and its head is decoded.
use Rattle.show_read.proofs.Laws.{named_inside, head_at_lem, head_none}
use Rattle.store_code.proofs.Found.{place_at, place_nowhere}
use Rattle.show_read.proofs.head_at.Goals as goal

pub head_of-requires : goal.head_of-requires
head_of-requires c = record { fitting = c.requires; slot_bound = named_inside _ _ c.slot_of.ensures c.in_ok-slot.was }

pub returns : goal.returns
returns c = head_at_lem _ _ (place_at c.slot_of.ensures c.in_ok-slot.was) c.head_of.ensures

pub returns-in_err-slot : goal.returns-in_err-slot
returns-in_err-slot c = rw c.from_residual.ensures (head_none _ _ (place_nowhere c.slot_of.ensures c.in_err-slot.was))
