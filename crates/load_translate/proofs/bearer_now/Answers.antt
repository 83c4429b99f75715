-- `bearer_now` meets its contract: the two answers of its test.
use Rattle.load_translate.proofs.Bearers.{now_borne, still_borne}
use Rattle.load_translate.proofs.bearer_now.Goals as goal

pub returns-then-asked-number : goal.returns-then-asked-number
returns-then-asked-number c = now_borne _ _ _ _ c.if-asked-number.true

pub returns-else-asked-number : goal.returns-else-asked-number
returns-else-asked-number c = still_borne _ _ _ _ c.if-asked-number.false
