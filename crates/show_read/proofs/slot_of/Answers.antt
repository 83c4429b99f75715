-- `slot_of` meets its contract: slots count from 1.
use native.Mathlib.Omega.{arith}
use Rattle.show_read.proofs.Laws.{named_at, named_none, named_some}
use Rattle.show_read.proofs.slot_of.Goals as goal

pub overflow_sub-result : goal.overflow_sub-result
overflow_sub-result c = omega (arith, named_some _ _ c.has_slot.ensures c.if-has_slot.true, c.place.ensures)

pub returns-then-has_slot : goal.returns-then-has_slot
returns-then-has_slot c = named_at _ _ c.has_slot.ensures c.if-has_slot.true c.place.ensures

pub returns-else-has_slot : goal.returns-else-has_slot
returns-else-has_slot c = named_none _ _ c.has_slot.ensures c.if-has_slot.false
