-- `head_of` meets its contract: a slot has a head's bytes, and decoding them is the definition.
use mathlib.Core.Path.{◌∙◌, ap}
use Rattle.store_code.proofs.Laws.{slot_head}
use Rattle.store_head.specs.Layout.{decode_head}
use Rattle.store.specs.Slots.{head_at}
use Rattle.store_code.proofs.head_of.Goals as goal

pub decode-requires : goal.decode-requires
decode-requires c = slot_head _ _ _ c.requires.fitting c.requires.slot_bound c.slot_bytes.ensures

pub returns : goal.returns
unfolding head_at
returns c = c.decode.ensures ∙ ap decode_head c.slot_bytes.ensures
