-- `begun` meets its contract: nothing is open, and nothing was read.
use Rattle.load_run.specs.Loaded.{nothing_begun}
use Rattle.load_run.proofs.begun.Goals as goal

pub returns : goal.returns
unfolding nothing_begun
returns c = rw (c.resting.ensures, c.nothing_read.ensures)
