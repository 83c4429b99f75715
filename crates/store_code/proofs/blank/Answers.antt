-- `blank` meets its contract: the lent part is the slot, and what comes back is the head of the key with no levels.
use native.Mathlib.Omega.{arith}
use mathlib.Core.Path.{sym, subst}
use Rattle.store_code.proofs.Laws.{slot_long, slot_ends, lent_length, slot_back, blank_is}
use Rattle.store.proofs.Start.{blank_fits, blank_length}
use Rattle.store_head.specs.Fits.{HeadFits}
use Rattle.store_code.proofs.blank.Goals as goal

pub slice_bounds-write_afresh-end : goal.slice_bounds-write_afresh-end
slice_bounds-write_afresh-end c = (slot_ends _ _ _ c.slot_range.ensures.start c.slot_range.ensures.end c.requires.fitting c.requires.slot_bound).1

pub write_afresh-requires : goal.write_afresh-requires
write_afresh-requires c = let l = lent_length _ _ _ c.slot_range.ensures.start c.slot_range.ensures.end c.requires.fitting c.requires.slot_bound in let g = slot_long c.args.desk in record { head_fits = subst HeadFits (sym c.blank_head.ensures) (blank_fits _ c.requires.key_fits); head_length_in_bounds = omega arith }

pub returns : goal.returns
returns c = let l = lent_length _ _ _ c.slot_range.ensures.start c.slot_range.ensures.end c.requires.fitting c.requires.slot_bound in slot_back _ _ _ c.slot_range.ensures.start c.slot_range.ensures.end c.requires.fitting c.requires.slot_bound _ _ (blank_is _ _ c.write_afresh.ensures c.blank_head.ensures l) (blank_length _ _)
