-- `record_end` meets its contract: the place where the record ends from `i` on is the place where it ends from `at` on, and plain
-- characters do not move it.
use mathlib.Core.Path.{refl, ap, subst, sym}
use mathlib.Core.Bool.{not}
use Prim.Native.Nat.{ℕ, ◌≤◌, ◌<◌, ◌+◌}
use native.Mathlib.Omega.{arith}
use lib.ListN.{length}
use Rattle.cells.proofs.Scan.{scan_turn, scan_stop, scan_end}
use Rattle.text_records.specs.Stream.{is_text}
use Rattle.text_records.proofs.Plain.{plain_from, plain_within, plain_turn}
use Rattle.text_records.proofs.record_end.Goals as goal

pub loop-i-init : goal.loop-i-init
loop-i-init c = (c.requires, refl)

pub returns-then-is_end : goal.returns-then-is_end
returns-then-is_end c = scan_stop is_text _ _ c.loop-i-test.true (ap not c.is_end.ensures) (ap not c.if-is_end.true) c.loop-i.invariant.1

pub loop-i-smaller : goal.loop-i-smaller
loop-i-smaller c =
    let s = c.args.stream.now in
    let h = plain_from s (c.loop-i.i + 1) in
    let e = c.plain_again-i.ensures in
    omega arith

pub loop-i-preserved : goal.loop-i-preserved
loop-i-preserved c =
    let s = c.args.stream.now in
    let i = c.loop-i.i in
    let h : i < length s = c.loop-i-test.true in
    let g : i + 1 ≤ length s = omega arith in (
      subst (λ (n : ℕ). n ≤ length s) (sym c.plain_again-i.ensures) (plain_within s (i + 1) g),
      plain_turn s (i + 1) c.plain_again-i.ensures (scan_turn is_text s i h (ap not c.is_end.ensures) (ap not c.if-is_end.false) c.loop-i.invariant.1),
    )

pub returns : goal.returns
returns c = scan_end is_text _ _ c.loop-i-test.false c.loop-i.invariant.1
