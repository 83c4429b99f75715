-- `page_place` meets its contract: with pages ignored, and as ever.
use native.Mathlib.Nat.{le_refl}
use Rattle.load_held.proofs.Clearing.{page_ignored, page_behind}
use Rattle.load_held.proofs.page_place.Goals as goal

pub returns-then-every : goal.returns-then-every
returns-then-every c = record { result_value = page_ignored _ _ c.if-every.true; upper_bound = le_refl _ }

pub returns-else-every : goal.returns-else-every
returns-else-every c = record { result_value = page_behind _ _ c.if-every.false; upper_bound = c.requires }
