-- `part` meets its contract: an integer, where it is in its range.
use Rattle.std.proofs.Common.{◌∙◌}
use Rattle.value.proofs.Times.{part_some}
use Rattle.value.proofs.part.Goals as goal

pub returns : goal.returns
returns c = c.then_some.ensures ∙ part_some _ c.read_integer.ensures c.in_ok-v.was
