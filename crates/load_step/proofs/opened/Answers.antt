-- `opened` meets its contract: at a seat, and with no room.
use Rattle.load_step.proofs.Primaries.{opened_at, opened_full}
use Rattle.load_step.proofs.opened.Goals as goal

pub returns : goal.returns
returns c = opened_at _ _ _ _ c.start.ensures c.requires.fitting c.requires.key_value c.in-Some.is c.ended.ensures

pub returns-in_default : goal.returns-in_default
returns-in_default c = opened_full _ _ _ _ c.start.ensures c.in_default.is c.full.ensures c.blameless.ensures c.refused.ensures
