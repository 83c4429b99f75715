-- `part_length` meets its contract: a colon and its digits, of which there are two at least.
use Rattle.std.proofs.Common.{arith}
use Rattle.value_written.proofs.Texts.{integer_length, integer_few, part_length}
use Rattle.value_written.proofs.part_length.Goals as goal

pub overflow_add-result : goal.overflow_add-result
overflow_add-result c = omega (arith, integer_few c.integer_length.ensures (omega arith))

pub returns : goal.returns
returns c = omega (arith, integer_length c.args.v, part_length c.args.v)
