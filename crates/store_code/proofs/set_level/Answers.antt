-- `set_level` meets its contract: the channel's place lies in the slot.
use mathlib.Core.Path.{refl}
use Rattle.store_code.proofs.Laws.{level_room, level_small, level_set}
use native.Mathlib.Omega.{arith}
use Rattle.store_code.proofs.set_level.Goals as goal

pub overflow_mul-slot : goal.overflow_mul-slot
overflow_mul-slot c = let h = level_small _ c.requires.within refl c.level_width.ensures c.requires.in_range in omega arith

pub overflow_add-slot : goal.overflow_add-slot
overflow_add-slot c = let h = level_small _ c.requires.within refl c.level_width.ensures c.requires.in_range in omega arith

pub bounds-slot-n : goal.bounds-slot-n
bounds-slot-n c = level_room _ c.requires.within refl c.level_width.ensures c.requires.desk_in_bounds

pub returns : goal.returns
returns c = level_set _ c.requires.within refl c.level_width.ensures _ _ _ refl
