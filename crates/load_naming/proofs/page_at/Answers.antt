-- `page_at` meets its contract: with no field, and with one.
use Rattle.load_naming.proofs.Fields.{field_in, field_lent, page_none, page_some}
use Rattle.load_naming.proofs.page_at.Goals as goal

pub returns-then-is_missing : goal.returns-then-is_missing
returns-then-is_missing c = page_none _ _ c.field_at-f.ensures c.is_missing.ensures _ _ c.if-is_missing.true

pub word-requires : goal.word-requires
word-requires c = field_lent (field_in c.requires c.field_at-f.ensures)

pub returns-else-is_missing : goal.returns-else-is_missing
returns-else-is_missing c = page_some _ _ c.field_at-f.ensures c.is_missing.ensures _ _ c.if-is_missing.false c.word.ensures c.read_page.ensures
