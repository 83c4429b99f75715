-- `zero` meets its contract: the part is filled.
use Rattle.store_code.proofs.Laws.{zero_back}
use Rattle.store_code.proofs.zero.Goals as goal

pub returns : goal.returns
returns c = zero_back _ _ _ _ c.fill.ensures c.requires
