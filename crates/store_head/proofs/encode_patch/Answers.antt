-- `encode_patch` meets its contract: the bytes of the packed row.
use native.Mathlib.Omega.{arith}
use mathlib.Core.Path.{◌≡◌}
use Prim.Native.Nat.{◌*◌, ◌%◌, ◌^◌}
use Rattle.store_head.proofs.Laws.{or_sum, patch_octets}
use mathlib.Core.Path.{refl}
use Rattle.store_head.proofs.encode_patch.Goals as goal

pub returns : goal.returns
returns c =
    let p = c.args.p in
    let f = c.requires in
    let e₁ : p.channel * 2 ^ 14 % 2 ^ 32 ≡ p.channel * 2 ^ 14 = omega (arith, f.channel) in
    let e₂ : p.level * 2 ^ 6 % 2 ^ 32 ≡ p.level * 2 ^ 6 = omega (arith, f.level) in
    rw c.to_be_bytes.ensures
    (patch_octets _ (or_sum 6 (or_sum 14 e₁ e₂ (omega arith) (omega (arith, f.level))) refl (omega arith) (omega (arith, f.rest))))
