-- `mark` meets its contract: past the end of the marks nothing is set.
use Rattle.std.proofs.Common.{◌%◌, arith}
use Rattle.load_hear.proofs.Bits.{bit_set}
use Rattle.load_hear.proofs.Noting.{mark_none, mark_some}
use Rattle.load_hear.proofs.mark.Goals as goal

pub returns-then-i-marks : goal.returns-then-i-marks
returns-then-i-marks c = mark_some _ _ _ (bit_set (c.args.n % 8) _ (omega arith))

pub returns-else-i-marks : goal.returns-else-i-marks
returns-else-i-marks c = mark_none _ _ c.if-i-marks.false
