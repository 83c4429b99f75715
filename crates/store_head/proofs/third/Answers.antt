-- `third` meets its contract: the fields side by side are the packed row.
use mathlib.Core.Path.{◌≡◌, ◌∙◌}
use Prim.Native.Nat.{◌*◌, ◌%◌, ◌^◌}
use native.Mathlib.Omega.{arith}
use Rattle.store_head.specs.Words.{down_rest, third_word}
use Rattle.store_head.specs.Pack.{packed, total}
use Rattle.store_head.proofs.Laws.{or_sum, or_field}
use Rattle.store_head.proofs.third.Goals as goal

pub returns : goal.returns
unfolding third_word packed total
returns c =
    let f = c.requires in
    let e₁ : c.from.result * 2 ^ 50 % 2 ^ 64 ≡ c.args.h.down_delay % 2 ^ down_rest * 2 ^ 50 = omega (arith, c.from.ensures) in
    let e₂ = or_field 50 49 e₁ c.from-2.ensures (omega arith) (omega (arith, f.followon)) (omega arith) in
    let e₃ = or_field 49 23 e₂ c.from-3.ensures (omega arith) (omega (arith, f.followon_time_of)) (omega arith) in
    or_sum 23 e₃ c.from-4.ensures (omega arith) (omega (arith, f.rest)) ∙ omega arith
