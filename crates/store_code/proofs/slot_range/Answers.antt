-- `slot_range` meets its contract: the slot ends among the slots' bytes, so the product and the sum fit.
use native.Mathlib.Omega.{arith}
use Rattle.store_code.proofs.Laws.{slot_small}
use Rattle.store_code.proofs.slot_range.Goals as goal

pub overflow_mul-start : goal.overflow_mul-start
overflow_mul-start c = let h = slot_small _ _ c.requires.slot_bound c.requires.in_range in rw c.slot_length.ensures (omega arith)

pub overflow_add-result : goal.overflow_add-result
overflow_add-result c = let h = slot_small _ _ c.requires.slot_bound c.requires.in_range in rw c.slot_length.ensures (omega arith)
