-- `empty` meets its contract: zeros from the start, as many as the store needs.
use Rattle.store.specs.Change.{emptied}
use Rattle.store_code.proofs.empty.Goals as goal

pub returns : goal.returns
unfolding emptied
returns c = rw c.store_length.ensures at c.zero.ensures
