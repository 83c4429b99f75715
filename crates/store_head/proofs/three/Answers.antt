-- `three` meets its contract: the law of three bytes.
use native.Mathlib.Omega.{arith}
use mathlib.Core.Path.{◌≡◌, refl, ◌∙◌}
use Prim.Native.Nat.{◌*◌, ◌%◌, ◌^◌}
use lib.ListN.{get_or}
use Rattle.store_head.proofs.Laws.{packed_three, or_sum}
use Rattle.store_head.proofs.three.Goals as goal

pub returns : goal.returns
returns c =
    let s = c.args.s.now in
    let a = c.type_inv.s 0 in
    let b = c.type_inv.s 1 in
    let d = c.type_inv.s 2 in
    let e₁ : c.from.result * 2 ^ 16 % 2 ^ 32 ≡ get_or s 0 0 * 65536 = omega (arith, c.from.ensures, a) in
    let e₂ : c.from-2.result * 2 ^ 8 % 2 ^ 32 ≡ get_or s 1 0 * 256 = omega (arith, c.from-2.ensures, b) in
    let e = or_sum 8 (or_sum 16 e₁ e₂ (omega arith) (omega (arith, b))) c.from-3.ensures (omega arith) (omega (arith, d)) in
    (e ∙ packed_three s refl refl refl, omega (arith, e, a, b, d))
