-- `blamed_at` meets its contract: the first field from there on is there where it starts within the text.
use Rattle.load.proofs.Blames.{blamed_there, blamed_past}
use Rattle.load.proofs.blamed_at.Goals as goal

pub returns-then-start-text : goal.returns-then-start-text
returns-then-start-text c = blamed_there _ _ _ c.field_start-start.ensures c.if-start-text.true

pub returns-else-start-text : goal.returns-else-start-text
returns-else-start-text c = blamed_past _ _ _ c.field_start-start.ensures c.if-start-text.false c.blameless.ensures
