-- `word_in` meets its contract: a slot has three bytes, and its quick number is the definition.
use native.Mathlib.Omega.{arith}
use mathlib.Core.Path.{◌∙◌, ap}
use Rattle.store_head.specs.Fits.{quick_of}
use Rattle.store.specs.Order.{slot_word}
use Rattle.store_code.proofs.Laws.{slot_long, slot_is, lent_long}
use Rattle.store_code.proofs.word_in.Goals as goal

pub quick-requires : goal.quick-requires
quick-requires c =
    let l = lent_long c.args.desk c.args.slots.now c.args.slot c.slot_range.ensures.start c.slot_range.ensures.end c.requires.slot_in_bounds in
    let g = slot_long c.args.desk in
    omega arith

pub returns : goal.returns
unfolding slot_word
returns c = c.quick.ensures ∙ ap quick_of (slot_is _ _ _ c.slot_range.ensures.start c.slot_range.ensures.end)
