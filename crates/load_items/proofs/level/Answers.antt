-- `level` meets its contract, by whether the field ends with its level.
use Rattle.load_items.proofs.Fields.{leveling_within, lit_whole, lit_longer}
use Rattle.load_items.proofs.level.Goals as goal

pub returns-then-ends : goal.returns-then-ends
returns-then-ends c = lit_whole _ _ c.level_at-l.ensures c.ends.ensures c.if-ends.true c.lit_by.ensures

pub unlit-requires : goal.unlit-requires
unlit-requires c = leveling_within _ _ c.level_at-l.ensures c.requires

pub returns-else-ends : goal.returns-else-ends
returns-else-ends c = lit_longer _ _ c.level_at-l.ensures c.ends.ensures c.if-ends.false c.unlit.ensures
