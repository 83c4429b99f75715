-- `seek` meets its contract: where something was asked for, and where nothing was.
use Rattle.load_translate.proofs.Bearers.{sought_some, sought_none}
use Rattle.load_translate.proofs.seek.Goals as goal

pub returns-then-any_asked : goal.returns-then-any_asked
returns-then-any_asked c = sought_some _ _ _ c.any_asked.ensures c.if-any_asked.true c.bear.ensures

pub returns-else-any_asked : goal.returns-else-any_asked
returns-else-any_asked c = sought_none _ _ _ c.any_asked.ensures c.if-any_asked.false
