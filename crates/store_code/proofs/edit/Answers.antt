-- `edit` meets its contract: the lent part is the slot, it comes back changed and as long as it was.
use native.Mathlib.Omega.{arith}
use Rattle.store_code.proofs.Laws.{slot_ends, lent_length, edit_back}
use Rattle.store_code.proofs.edit.Goals as goal

pub slice_bounds-edit_slot-end : goal.slice_bounds-edit_slot-end
slice_bounds-edit_slot-end c = (slot_ends _ _ _ c.slot_range.ensures.start c.slot_range.ensures.end c.requires.fitting c.requires.slot_bound).1

pub edit_slot-requires : goal.edit_slot-requires
edit_slot-requires c = record { in_range = c.requires.fitting.range; editing = c.requires.editing; desk_in_bounds = let l = lent_length _ _ _ c.slot_range.ensures.start c.slot_range.ensures.end c.requires.fitting c.requires.slot_bound in omega arith }

pub returns : goal.returns
returns c = edit_back _ _ _ _ _ c.slot_range.ensures.start c.slot_range.ensures.end c.requires.fitting c.requires.slot_bound c.edit_slot.ensures c.edit_slot.auto.slot
