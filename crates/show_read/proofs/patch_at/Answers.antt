-- `patch_at` meets its contract: a dimmer that the desk has has an entry.
use Rattle.show_read.proofs.Laws.{on_patch, patch_at, patch_none}
use Rattle.show_read.proofs.patch_at.Goals as goal

pub patch_of-requires : goal.patch_of-requires
patch_of-requires c = record { fitting = c.requires; on_patch = on_patch _ _ _ c.has_dimmer.ensures c.if-has_dimmer.true }

pub returns-then-has_dimmer : goal.returns-then-has_dimmer
returns-then-has_dimmer c = patch_at _ _ _ _ c.has_dimmer.ensures c.if-has_dimmer.true c.patch_of.ensures

pub returns-else-has_dimmer : goal.returns-else-has_dimmer
returns-else-has_dimmer c = patch_none _ _ _ _ c.has_dimmer.ensures c.if-has_dimmer.false
