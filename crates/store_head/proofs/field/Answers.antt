-- `field` meets its contract: a shift divides, and a mask of the lowest bits takes the remainder.
use Prim.Native.Nat.{◌/◌, ◌^◌}
use native.Mathlib.Omega.{arith}
use lib.Bits.{and_mask}
use Rattle.std.proofs.lemmas.Nat.{one_shl}
use Rattle.store_head.proofs.field.Goals as goal

pub returns : goal.returns
returns c =
    let a = c.args in
    rw (one_shl a.width 64 (omega arith)) (and_mask (a.word / 2 ^ a.at) a.width)
