-- `clock_length` meets its contract, shape by shape.
use mathlib.Core.Path.{sym, ap, ◌∙◌}
use native.Mathlib.Omega.{arith}
use lib.ListN.{length}
use Rattle.value_written.proofs.Texts.{clock_seconds, minutes_length, hours_length, integer_few, part_few}
use Rattle.value_written.proofs.clock_length.Goals as goal

pub returns-then-seconds-lt-MINUTE : goal.returns-then-seconds-lt-MINUTE
returns-then-seconds-lt-MINUTE c = c.integer_length.ensures ∙ ap length (sym (clock_seconds _ c.if-seconds-lt-MINUTE.true))

pub overflow_add-result : goal.overflow_add-result
overflow_add-result c = omega (arith, integer_few c.integer_length-then-seconds-lt-HOUR.ensures (omega arith), part_few c.part_length.ensures (omega arith))

pub returns-then-seconds-lt-HOUR : goal.returns-then-seconds-lt-HOUR
returns-then-seconds-lt-HOUR c = minutes_length _ c.integer_length-then-seconds-lt-HOUR.ensures c.part_length.ensures c.if-seconds-lt-MINUTE.false c.if-seconds-lt-HOUR.true

pub overflow_add-result-2 : goal.overflow_add-result-2
overflow_add-result-2 c = omega (arith, integer_few c.integer_length-2.ensures (omega arith), part_few c.part_length-2.ensures (omega arith))

pub overflow_add-result-3 : goal.overflow_add-result-3
overflow_add-result-3 c = omega (arith, integer_few c.integer_length-2.ensures (omega arith), part_few c.part_length-2.ensures (omega arith), part_few c.part_length-3.ensures (omega arith))

pub returns : goal.returns
returns c =
    hours_length _ c.left_by-rest.ensures c.whole_in.ensures c.whole_in-2.ensures c.left_by.ensures
    c.integer_length-2.ensures c.part_length-2.ensures c.part_length-3.ensures c.if-seconds-lt-HOUR.false
