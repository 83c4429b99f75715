-- `digit_char` meets its contract: the constant is the rule's table, computed once, and the rule holds at each place of it.
use Rattle.std.proofs.Common.{arith}
use Rattle.cells.specs.Table.{tab}
use Rattle.cells.proofs.Table.{tab_at}
use Rattle.value_written.specs.Text.{digit_char}
use Rattle.value_written.proofs.digit_char.Goals as goal

pub returns : goal.returns
unfolding tab digit_char
returns c = tab_at digit_char 16 c.args.d 0 (omega arith)
