-- `column_among` meets its contract: behind i characters the column is i, and what is left of it among the others.
use Rattle.std.proofs.Common.{arith}
use Rattle.text_records.proofs.Columns.{column_stop, column_turn, column_end}
use Rattle.text_records.proofs.column_among.Goals as goal

pub returns-then-left-eq0 : goal.returns-then-left-eq0
returns-then-left-eq0 c = column_stop _ _ _ c.loop-i.invariant c.if-left-eq0.true

pub loop-i-preserved : goal.loop-i-preserved
loop-i-preserved c = column_turn _ _ _ c.loop-i.invariant c.loop-i-test.true c.if-left-eq0.false c.left_behind-left.ensures

pub returns : goal.returns
returns c = omega (arith, column_end _ _ _ c.loop-i.invariant c.loop-i-test.false)
