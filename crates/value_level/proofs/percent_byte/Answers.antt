-- `percent_byte` meets its contract: the constant is the rule's table, computed once, and the rule holds at each place of it.
use native.Mathlib.Omega.{arith}
use Rattle.cells.specs.Table.{tab}
use Rattle.cells.proofs.Table.{tab_at}
use Rattle.value_level.specs.Level.{percent_byte}
use Rattle.value_level.proofs.percent_byte.Goals as goal

pub returns : goal.returns
unfolding tab percent_byte
returns c = tab_at percent_byte 101 c.args.p 0 (omega arith)
