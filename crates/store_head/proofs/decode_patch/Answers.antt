-- `decode_patch` meets its contract: the fields of the table.
use native.Mathlib.Omega.{arith}
use mathlib.Core.Path.{◌≡◌, ◌∙◌}
use Prim.Native.Nat.{◌/◌, ◌%◌, ◌^◌}
use lib.Bits.{and_mask}
use Rattle.store_head.specs.Fits.{channel_span}
use Rattle.store_head.proofs.Laws.{patch_fields}
use Rattle.store_head.proofs.decode_patch.Goals as goal

pub returns : goal.returns
returns c =
    let n = c.three-n.result in
    let channel : n / 2 ^ 14 ≡ n / 2 ^ 14 % channel_span = omega (arith, c.three-n.ensures.1) in
    (λ i. record { channel = channel i; level = and_mask (n / 2 ^ 6) 8 i; rest = and_mask n 6 i })
    ∙ patch_fields _ c.three-n.ensures.0
