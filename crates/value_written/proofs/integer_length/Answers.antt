-- `integer_length` meets its contract: the power of ten tells the digits.
use Rattle.std.proofs.Common.{arith}
use Rattle.std.specs.Prelude.{Some}
use Rattle.value_written.proofs.Texts.{length_power, integer_short, integer_some}
use Rattle.value_written.proofs.integer_length.Goals as goal

pub returns-in-0-to-9 : goal.returns-in-0-to-9
returns-in-0-to-9 c = omega (arith, integer_short c.args.n 0 (omega arith), integer_some c.args.n)

pub returns-in-10-to-99 : goal.returns-in-10-to-99
returns-in-10-to-99 c = length_power c.args.n (Some 1) (omega arith) tt (omega arith) (omega arith)

pub returns-in-100-to-999 : goal.returns-in-100-to-999
returns-in-100-to-999 c = length_power c.args.n (Some 2) (omega arith) tt (omega arith) (omega arith)

pub returns-in_default : goal.returns-in_default
returns-in_default c = length_power c.args.n (Some c.ilog10.result) (omega arith) tt c.ilog10.ensures.power_le c.ilog10.ensures.next_power_gt
