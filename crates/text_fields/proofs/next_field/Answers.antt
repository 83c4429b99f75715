-- `next_field` meets its contract: behind `end` and before `i` there are only delimiters (`Behind`).
use native.Mathlib.Omega.{arith}
use Rattle.text_fields.proofs.Runs.{behind_start, behind_turn, behind_stop, behind_end}
use Rattle.text_fields.proofs.next_field.Goals as goal

pub loop-i-init : goal.loop-i-init
loop-i-init c = behind_start c.requires

pub returns-then-not-is_delimiter : goal.returns-then-not-is_delimiter
returns-then-not-is_delimiter c = behind_stop c.loop-i.invariant c.loop-i-test.true c.is_delimiter.ensures c.if-not-is_delimiter.true

pub loop-i-preserved : goal.loop-i-preserved
loop-i-preserved c = behind_turn c.loop-i.invariant c.loop-i-test.true c.is_delimiter.ensures c.if-not-is_delimiter.false

pub returns : goal.returns
returns c = behind_end c.loop-i.invariant (omega arith)
