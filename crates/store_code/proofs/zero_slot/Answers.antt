-- `zero_slot` meets its contract: the zeros are where the slot lies.
use native.Mathlib.Omega.{arith}
use Rattle.store_code.proofs.Laws.{slot_room}
use Rattle.store.specs.Slots.{put_slot}
use Rattle.store_code.proofs.zero_slot.Goals as goal

pub zero-requires : goal.zero-requires
zero-requires c = let l = slot_room _ _ c.requires.slot_bound c.requires.fitting in omega (arith, c.slot_range.ensures.start, c.slot_length.ensures)

pub returns : goal.returns
unfolding put_slot
returns c = rw (c.slot_range.ensures.start, c.slot_length.ensures) at c.zero.ensures
