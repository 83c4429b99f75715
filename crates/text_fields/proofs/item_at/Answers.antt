-- `text_fields::item_at` meets its contract: the number made in the scan decides.
use Rattle.text_fields.proofs.Runs.{said_item_by}
use Rattle.text_fields.proofs.item_at.Goals as goal

pub returns : goal.returns
returns c = said_item_by _ _ c.key_at-w.ensures c.byte.ensures c.item_of.ensures
