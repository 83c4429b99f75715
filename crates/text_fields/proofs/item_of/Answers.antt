-- `text_fields::item_of` meets its contract: a `$` decides before any name.
use Rattle.std.proofs.Common.{arith}
use Rattle.text_fields.proofs.Keys.{by_local_item, by_item}
use Rattle.text_fields.proofs.item_of.Goals as goal

pub returns-in-36 : goal.returns-in-36
returns-in-36 c = by_local_item _ _ c.in-36.is

pub returns-in_default : goal.returns-in_default
returns-in_default c = by_item _ _ (λ e. grind arith) c.item_by.ensures
