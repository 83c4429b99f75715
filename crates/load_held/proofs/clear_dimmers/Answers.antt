-- `clear_dimmers` meets its contract: a patch with the page, and one without.
use Rattle.load_held.proofs.Clearing.{dimmers_have, dimmers_lack}
use Rattle.load_held.proofs.clear_dimmers.Goals as goal

pub returns-then-page-desk : goal.returns-then-page-desk
returns-then-page-desk c = dimmers_have _ _ _ c.if-page-desk.true c.clear_patch.ensures

pub returns-else-page-desk : goal.returns-else-page-desk
returns-else-page-desk c = dimmers_lack _ _ _ c.if-page-desk.false
