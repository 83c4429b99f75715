-- `second` meets its contract: the fields side by side are the packed row.
use mathlib.Core.Path.{◌≡◌, ◌∙◌}
use Prim.Native.Nat.{◌*◌, ◌%◌, ◌^◌}
use native.Mathlib.Omega.{arith}
use Rattle.store_head.specs.Words.{up_rest, second_word}
use Rattle.store_head.specs.Pack.{packed, total}
use Rattle.store_head.proofs.Laws.{or_sum, or_field}
use Rattle.store_head.proofs.second.Goals as goal

pub returns : goal.returns
unfolding second_word packed total
returns c =
    let f = c.requires in
    let e₁ : c.from.result * 2 ^ 39 % 2 ^ 64 ≡ c.args.h.up_delay % 2 ^ up_rest * 2 ^ 39 = omega (arith, c.from.ensures) in
    let e₂ = or_field 39 38 e₁ c.from-2.ensures (omega arith) (omega (arith, f.down)) (omega arith) in
    let e₃ = or_field 38 12 e₂ c.from-3.ensures (omega arith) (omega (arith, f.down_fade_of)) (omega arith) in
    or_sum 12 e₃ c.from-4.ensures (omega arith) (omega (arith, f.down_delay_of)) ∙ omega arith
