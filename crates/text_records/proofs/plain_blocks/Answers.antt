-- `records::plain_blocks` meets its contract: a block that is plain does not move the end.
use mathlib.Core.Path.{refl, ap}
use mathlib.Core.Bool.{not}
use Prim.Native.Nat.{◌≤◌, ◌+◌}
use native.Mathlib.Omega.{arith}
use lib.ListN.{length}
use Rattle.text_records.specs.Window.{block}
use Rattle.text_records.proofs.Plain.{block_past}
use Rattle.text_records.proofs.plain_blocks.Goals as goal

pub loop-i-init : goal.loop-i-init
loop-i-init c = (c.requires, refl)

pub returns-then-not-is_plain : goal.returns-then-not-is_plain
returns-then-not-is_plain c = c.loop-i.invariant

pub loop-i-preserved : goal.loop-i-preserved
loop-i-preserved c =
    let s = c.args.stream.now in
    let i = c.loop-i.i in
    let h : i + block ≤ length s = omega arith in
    (h, block_past s i block h c.is_plain.ensures (ap not c.if-not-is_plain.false) c.loop-i.invariant.1)

pub returns : goal.returns
returns c = c.loop-i.invariant
