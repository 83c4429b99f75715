-- `left_by` meets its contract: what is counted is never more than there is.
use mathlib.Core.Path.{ap, ◌∙◌}
use Prim.Native.Nat.{ℕ, ◌-◌, ◌*◌}
use native.Mathlib.Omega.{arith}
use Rattle.value_written.proofs.Texts.{counted_le, left_is}
use Rattle.value_written.proofs.left_by.Goals as goal

pub overflow_mul-result : goal.overflow_mul-result
overflow_mul-result c = omega (arith, counted_le c.args.unit c.args.seconds c.whole_in.ensures)

pub overflow_sub-result : goal.overflow_sub-result
overflow_sub-result c = counted_le _ _ c.whole_in.ensures

pub returns : goal.returns
returns c = ap (λ (k : ℕ). c.args.seconds - k * c.args.unit) c.whole_in.ensures ∙ left_is _ _
