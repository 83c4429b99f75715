-- `time_length` meets its contract: the two parts' lengths.
use native.Mathlib.Omega.{arith}
use Rattle.value_written.proofs.Texts.{time_length, time_long}
use Rattle.value_written.proofs.time_length.Goals as goal

pub overflow_add-result : goal.overflow_add-result
overflow_add-result c =
    omega
    (arith, c.clock_length.ensures, c.fraction_length.ensures, time_length c.args.tenths, time_long c.args.tenths (omega arith))

pub returns : goal.returns
returns c = omega (arith, c.clock_length.ensures, c.fraction_length.ensures, time_length c.args.tenths)
