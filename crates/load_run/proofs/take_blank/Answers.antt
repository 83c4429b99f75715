-- `take_blank` meets its contract: the definition, with the tally.
use Rattle.load_run.proofs.take_blank.Goals as goal

pub returns : goal.returns
returns c = rw c.tally.ensures
