-- `fade_at` meets its contract: fade, then delay.
use mathlib.Core.Path.{sym}
use Rattle.load_naming.proofs.Fields.{field_in, start_low, line_next}
use Rattle.load_naming.proofs.Times.{fade_wrong, delay_wrong, delay_good}
use Rattle.load_naming.proofs.fade_at.Goals as goal

pub time_in-requires : goal.time_in-requires
time_in-requires c = field_in c.requires c.field_at-f.ensures

pub blamed-requires : goal.blamed-requires
blamed-requires c = start_low (field_in c.requires c.field_at-f.ensures)

pub returns-in_default : goal.returns-in_default
returns-in_default c = λ k. sym (fade_wrong c.requires c.field_at-f.ensures c.time_in.ensures k c.in_default.is c.blamed.ensures)

pub delay_at-requires : goal.delay_at-requires
delay_at-requires c = line_next c.requires c.field_at-f.ensures

pub blamed_at-requires : goal.blamed_at-requires
blamed_at-requires c = (line_next c.requires c.field_at-f.ensures).within

pub returns-in_default-delay_at : goal.returns-in_default-delay_at
returns-in_default-delay_at c = λ k. sym (delay_wrong c.requires c.field_at-f.ensures c.time_in.ensures k c.in-Some.is c.delay_at.ensures c.in_default-delay_at.is c.blamed_at.ensures)

pub returns : goal.returns
returns c = λ k. sym (delay_good c.requires c.field_at-f.ensures c.time_in.ensures k c.in-Some.is c.delay_at.ensures c.in-Some-delay_at.is)
