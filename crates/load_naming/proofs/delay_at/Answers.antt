-- `delay_at` meets its contract: with no field, and with one.
use Rattle.load_naming.proofs.Fields.{field_in, delay_none, delay_some}
use Rattle.load_naming.proofs.delay_at.Goals as goal

pub returns-then-is_missing : goal.returns-then-is_missing
returns-then-is_missing c = delay_none _ _ c.field_at-f.ensures c.is_missing.ensures c.if-is_missing.true

pub time_in-requires : goal.time_in-requires
time_in-requires c = field_in c.requires c.field_at-f.ensures

pub returns-else-is_missing : goal.returns-else-is_missing
returns-else-is_missing c = delay_some _ _ c.field_at-f.ensures c.is_missing.ensures c.if-is_missing.false c.time_in.ensures
