-- `slot_bytes` meets its contract: the part between a slot's start and end lies in the store and is the slot.
use Rattle.store_code.proofs.Laws.{slot_ends, slot_is}
use Rattle.store_code.proofs.slot_bytes.Goals as goal

pub slice_bounds-result-end : goal.slice_bounds-result-end
slice_bounds-result-end c = (slot_ends _ _ _ c.slot_range.ensures.start c.slot_range.ensures.end c.requires.fitting c.requires.slot_bound).1

pub returns : goal.returns
returns c = slot_is _ _ _ c.slot_range.ensures.start c.slot_range.ensures.end
