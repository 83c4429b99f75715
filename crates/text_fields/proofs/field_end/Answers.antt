-- `text_fields::field_end` meets its contract: the place where the scan from `i` ends is the place where the scan from `at` ends.
use mathlib.Core.Path.{◌≡◌, refl, sym, ap, ◌∙◌}
use mathlib.Core.Bool.{not}
use Prim.Native.Nat.{◌≤◌}
use lib.ListN.{length}
use native.Mathlib.Omega.{arith}
use Rattle.cells.proofs.Scan.{scan_turn, scan_stop, scan_end}
use Rattle.text_fields.specs.Words.{is_word}
use Rattle.text_fields.proofs.field_end.Goals as goal

pub loop-i-init : goal.loop-i-init
loop-i-init c = (c.requires, refl)

pub returns-then-is_delimiter : goal.returns-then-is_delimiter
returns-then-is_delimiter c = scan_stop is_word _ _ c.loop-i-test.true refl (ap not (sym c.is_delimiter.ensures ∙ c.if-is_delimiter.true)) c.loop-i.invariant.1

pub loop-i-preserved : goal.loop-i-preserved
loop-i-preserved c = (omega arith, scan_turn is_word _ _ c.loop-i-test.true refl (ap not (sym c.is_delimiter.ensures ∙ c.if-is_delimiter.false)) c.loop-i.invariant.1)

pub returns : goal.returns
returns c =
    let within : c.loop-i.i ≤ length c.args.text.now = c.loop-i.invariant.0 in
    let over : length c.args.text.now ≡ c.loop-i.i = omega arith in
    over ∙ scan_end is_word _ _ (omega arith) c.loop-i.invariant.1
