-- `word_at` meets its contract: a slot has three bytes, and its quick number is the definition.
use native.Mathlib.Omega.{arith}
use mathlib.Core.Path.{◌∙◌, ap}
use Rattle.store_code.proofs.Laws.{slot_head}
use Rattle.store_head.specs.Fits.{quick_of}
use Rattle.store.specs.Order.{slot_word}
use Rattle.store_code.proofs.word_at.Goals as goal

pub quick-requires : goal.quick-requires
quick-requires c = let l = slot_head _ _ _ c.requires.fitting c.requires.slot_bound c.slot_bytes.ensures in omega arith

pub returns : goal.returns
unfolding slot_word
returns c = c.quick.ensures ∙ ap quick_of c.slot_bytes.ensures
