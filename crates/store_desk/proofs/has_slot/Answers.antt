-- `has_slot` meets its contract: the test is the range of the slots' numbers.
use mathlib.Core.Path.{◌∙◌}
use Rattle.store_desk.specs.Name.{has_slot}
use Rattle.store_desk.proofs.Size.{contained}
use Rattle.store_desk.proofs.has_slot.Goals as goal

pub returns : goal.returns
unfolding has_slot
returns c = c.contains.ensures.value ∙ contained c.args.number c.new.ensures.start (c.new.ensures.end ∙ c.slots.ensures) c.new.ensures.exhausted
