-- `levels_start` meets its contract: the slot lies among the slots' bytes, so the sum fits.
use native.Mathlib.Omega.{arith}
use mathlib.Core.Path.{ap}
use Prim.Native.Nat.{ℕ, ◌+◌}
use Rattle.store_code.proofs.Laws.{slot_small, slot_long}
use Rattle.store_code.proofs.levels_start.Goals as goal

pub overflow_add-result : goal.overflow_add-result
overflow_add-result c = let h = slot_small _ _ c.requires.slot_bound c.requires.in_range in let g = slot_long c.args.desk in omega (arith, c.slot_range.ensures.start)

pub returns : goal.returns
returns c = ap (λ (n : ℕ). n + 24) c.slot_range.ensures.start
