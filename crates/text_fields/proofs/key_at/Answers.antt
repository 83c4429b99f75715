-- `text_fields::key_at` meets its contract: the key so far is that of the characters before `i`, by the laws of the key made on the way.
use native.Mathlib.Omega.{arith}
use Rattle.text_fields.proofs.Runs.{keying_start, keying_turn, keying_past, keying_stop, keying_end, letter_product, key_turn_low}
use Rattle.text_fields.proofs.key_at.Goals as goal
use Rattle.text_fields.proofs.key_at.Goals.{then-unit-lt-ELEVENTH, else-unit-lt-ELEVENTH}

pub loop-i-init : goal.loop-i-init
loop-i-init c = keying_start _ _ c.requires

pub returns-then-is_delimiter : goal.returns-then-is_delimiter
returns-then-is_delimiter c = keying_stop c.loop-i.invariant c.loop-i-test.true c.is_delimiter.ensures c.if-is_delimiter.true

pub overflow_mul-key : goal.overflow_mul-key
overflow_mul-key c = omega (arith, letter_product _ c.loop-i.invariant c.letter.ensures)

pub overflow_add-key : goal.overflow_add-key
overflow_add-key c = omega (arith, key_turn_low _ c.loop-i.invariant c.letter.ensures)

pub loop-i-preserved : goal.loop-i-preserved
loop-i-preserved c =
    elim c.if-unit-lt-ELEVENTH.branch [
      | then-unit-lt-ELEVENTH w ↦
          keying_turn c.loop-i.invariant c.loop-i-test.true c.is_delimiter.ensures c.if-is_delimiter.false w.if-unit-lt-ELEVENTH.true w.letter.ensures w.key-is w.unit-is
      | else-unit-lt-ELEVENTH w ↦
          keying_past c.loop-i.invariant c.loop-i-test.true c.is_delimiter.ensures c.if-is_delimiter.false w.if-unit-lt-ELEVENTH.false w.key-is w.unit-is
    ]

pub returns : goal.returns
returns c = keying_end c.loop-i.invariant (omega arith)
