-- `followon_at` meets its contract: a time, or none.
use Rattle.load_naming.proofs.Fields.{field_in, start_low}
use Rattle.load_naming.proofs.Times.{followon_wrong, followon_good}
use Rattle.load_naming.proofs.followon_at.Goals as goal

pub time_in-requires : goal.time_in-requires
time_in-requires c = field_in c.requires c.field_at-f.ensures

pub blamed-requires : goal.blamed-requires
blamed-requires c = start_low (field_in c.requires c.field_at-f.ensures)

pub returns-in_default : goal.returns-in_default
returns-in_default c = followon_wrong c.requires c.field_at-f.ensures c.time_in.ensures c.in_default.is c.blamed.ensures

pub returns : goal.returns
returns c = followon_good c.requires c.field_at-f.ensures c.time_in.ensures c.in-Some.is
