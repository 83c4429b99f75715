-- `clear_patch` meets its contract: a wrong page, and a right one.
use mathlib.Core.Path.{◌∙◌}
use Rattle.load_held.proofs.Answers.{asked_as, rests_as}
use Rattle.load_held.proofs.Clearing.{page_le, paged_bad, paged_good, dimmers_as, patch_cleared}
use Rattle.load_held.proofs.clear_patch.Goals as goal

pub blamed_at-requires : goal.blamed_at-requires
blamed_at-requires c = c.requires.line.within

pub clear_patch-requires : goal.clear_patch-requires
clear_patch-requires c = record { fitting = c.requires.fitting; page_bound = page_le _ _ c.page_at.ensures c.in-Some.is }

pub returns-in_default : goal.returns-in_default
returns-in_default c = asked_as _ _ _ (paged_bad _ _ c.in_default.is c.blamed_at.ensures ∙ dimmers_as _ _ c.page_at.ensures) (rests_as _ _ _ c.requires.held_ready c.ended.ensures)

pub returns : goal.returns
returns c = asked_as _ _ _ (paged_good _ _ c.in-Some.is ∙ dimmers_as _ _ c.page_at.ensures) (patch_cleared _ _ _ c.cleared.ensures _ c.clear_patch.ensures)
