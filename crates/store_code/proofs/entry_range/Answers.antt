-- `entry_range` meets its contract: the entry ends within what the desk needs, so the product and the sums fit.
use native.Mathlib.Omega.{arith}
use Rattle.store_code.proofs.Laws.{entry_small}
use Rattle.store_code.proofs.entry_range.Goals as goal

pub overflow_mul-start : goal.overflow_mul-start
overflow_mul-start c = let h = entry_small _ _ c.requires.bound c.requires.in_range in omega arith

pub overflow_add-start : goal.overflow_add-start
overflow_add-start c = let h = entry_small _ _ c.requires.bound c.requires.in_range in omega arith

pub overflow_add-result : goal.overflow_add-result
overflow_add-result c = let h = entry_small _ _ c.requires.bound c.requires.in_range in omega arith
