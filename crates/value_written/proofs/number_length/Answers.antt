-- `number_length` meets its contract: the two parts' lengths.
use native.Mathlib.Omega.{arith}
use Rattle.value.specs.Number.{fraction_digits}
use Rattle.value_written.proofs.Texts.{integer_ten, fraction_short, number_length}
use Rattle.value_written.proofs.number_length.Goals as goal

pub overflow_add-result : goal.overflow_add-result
overflow_add-result c =
    omega
    (arith, c.integer_length.ensures, c.fraction_length.ensures, integer_ten c.args.x.whole (omega arith), fraction_short fraction_digits c.args.x.fraction)

pub returns : goal.returns
returns c =
    omega
    (arith, c.integer_length.ensures, c.fraction_length.ensures, number_length c.args.x.whole c.args.x.fraction)
