-- `read_integer` meets its contract: the run in radix ten.
use Rattle.value.specs.Integer.{integer_of}
use Rattle.value.proofs.read_integer.Goals as goal

pub returns : goal.returns
unfolding integer_of
returns c = c.run.ensures
