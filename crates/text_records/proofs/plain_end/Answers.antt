-- `plain_end` meets its contract: the place where the scan from `i` ends is the place where the scan from `at` ends.
use Rattle.std.proofs.Common.{arith, false, true, refl, sym, ap}
use mathlib.Core.Bool.{not}
use Rattle.cells.proofs.Scan.{scan_turn, scan_stop, scan_end}
use Rattle.text_records.specs.Window.{is_plain}
use Rattle.text_records.proofs.Plain.{graphic_plain, neither_special, space_plain}
use Rattle.text_records.proofs.plain_end.Goals as goal
use Rattle.text_records.proofs.plain_end.Goals.{else-not-is_graphic-via-then-not-is_graphic+else-c-ne-SPACE, else-not-is_graphic-via-else-not-is_graphic}

pub returns-then-c-ne-SPACE : goal.returns-then-c-ne-SPACE
returns-then-c-ne-SPACE c =
    scan_stop is_plain _ _ {b = false} c.loop-i-test.true (sym (neither_special _ c.is_graphic.ensures (ap not c.if-not-is_graphic.true) c.if-c-ne-SPACE.true)) refl
    c.loop-i.invariant

pub loop-i-preserved : goal.loop-i-preserved
loop-i-preserved c =
    scan_turn is_plain _ _ {b = true} c.loop-i-test.true
    (sym (elim c.else-not-is_graphic.branch [
      | else-not-is_graphic-via-then-not-is_graphic+else-c-ne-SPACE w ↦ space_plain _ w.if-c-ne-SPACE.false
      | else-not-is_graphic-via-else-not-is_graphic w ↦ graphic_plain _ c.is_graphic.ensures (ap not w.if-not-is_graphic.false)
    ]))
    refl
    c.loop-i.invariant

pub returns : goal.returns
returns c = omega (arith, scan_end is_plain _ _ c.loop-i-test.false c.loop-i.invariant)
