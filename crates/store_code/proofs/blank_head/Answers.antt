-- `blank_head` meets its contract: it is the definition, field by field.
use mathlib.Core.Path.{refl}
use Rattle.store.specs.Change.{blank_head}
use Rattle.store_code.proofs.blank_head.Goals as goal

pub returns : goal.returns
unfolding blank_head
returns c = refl
