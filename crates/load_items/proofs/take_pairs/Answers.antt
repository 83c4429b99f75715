-- `take_pairs` meets its contract: the items from where the first field starts, if one does.
use Rattle.load_items.proofs.Laws.{ready_start, starts_start, pairs_taken, pairs_none}
use Rattle.load_items.proofs.take_pairs.Goals as goal

pub take_items-requires : goal.take_items-requires
take_items-requires c = record { items_ready = ready_start _ _ _ _ _ _ c.field_start-start.ensures c.requires; starting = starts_start _ _ c.field_start-start.ensures }

pub returns-then-start-text : goal.returns-then-start-text
returns-then-start-text c = pairs_none _ _ _ _ _ _ c.field_start-start.ensures c.if-start-text.true

pub returns : goal.returns
returns c = pairs_taken _ _ _ _ _ _ c.field_start-start.ensures c.take_items.ensures
