-- `entry_bytes` meets its contract: the entry lies within the store, and the part is the entry.
use native.Mathlib.Omega.{arith}
use Rattle.store_code.proofs.Laws.{entry_room, entry_is}
use Rattle.store_code.proofs.entry_bytes.Goals as goal

pub slice_bounds-result-end : goal.slice_bounds-result-end
slice_bounds-result-end c = let h = entry_room _ _ c.requires.bound c.requires.fitting in omega (arith, c.entry_range.ensures.end)

pub returns : goal.returns
returns c = entry_is _ _ _ c.entry_range.ensures.start c.entry_range.ensures.end
