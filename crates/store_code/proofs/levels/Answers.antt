-- `levels` meets its contract: what is after the head's bytes in the slot is its levels, and lies that far into the store.
use mathlib.Core.Path.{refl}
use native.Mathlib.Omega.{arith}
use Rattle.store_code.proofs.Laws.{slot_long, slot_ends, levels_is}
use Rattle.std.proofs.Common.{rules}
use Rattle.store_code.proofs.levels.Goals as goal

pub slice_bounds-result-count : goal.slice_bounds-result-count
slice_bounds-result-count c = let g = slot_long c.args.desk in omega (arith, c.levels_start.ensures, c.slot_range.ensures.end)

pub slice_bounds-result-start : goal.slice_bounds-result-start
slice_bounds-result-start c = let g = slot_long c.args.desk in omega (arith, c.levels_start.ensures, c.slot_range.ensures.end)

pub slice_bounds-result-end : goal.slice_bounds-result-end
slice_bounds-result-end c = (slot_ends _ _ _ refl c.slot_range.ensures.end c.requires.fitting c.requires.slot_bound).1

pub returns : goal.returns
returns c = record { bytes = levels_is _ _ _ c.levels_start.ensures c.slot_range.ensures.end; block = search rules; offset = omega (arith, c.levels_start.ensures) }
