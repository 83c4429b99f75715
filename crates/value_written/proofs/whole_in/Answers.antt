-- `whole_in` meets its contract: what fits, and 999 at most.
use Rattle.std.proofs.Common.{arith}
use Rattle.value_written.specs.Text.{whole_in}
use Rattle.value_written.proofs.whole_in.Goals as goal

pub returns : goal.returns
unfolding whole_in
returns c = omega arith
