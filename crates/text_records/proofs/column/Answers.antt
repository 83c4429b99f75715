-- `column` meets its contract: the place itself where no character up to it is ignored, else from character to character.
use Rattle.text_records.proofs.Columns.{column_seen}
use Rattle.text_records.proofs.column.Goals as goal

pub returns : goal.returns
returns c = column_seen _ _ c.seen_in-seen.ensures c.if-received-place.false c.if-seen.false c.if-seen-2.false
