-- `clear_all` meets its contract: a wrong page, and a right one.
use mathlib.Core.Path.{◌∙◌}
use Rattle.load_held.proofs.Answers.{asked_as, rests_as}
use Rattle.load_held.proofs.Clearing.{paged_bad, paged_good, all_as, clears_as}
use Rattle.load_held.proofs.clear_all.Goals as goal

pub blamed_at-requires : goal.blamed_at-requires
blamed_at-requires c = c.requires.line.within

pub returns-in_default : goal.returns-in_default
returns-in_default c = asked_as _ _ _ (paged_bad _ _ c.in_default.is c.blamed_at.ensures ∙ all_as _ _ c.most_pages.ensures c.page_at.ensures) (rests_as _ _ _ c.requires.held_ready c.ended.ensures)

pub returns : goal.returns
returns c = asked_as _ _ _ (paged_good _ _ c.in-Some.is ∙ all_as _ _ c.most_pages.ensures c.page_at.ensures) (clears_as _ _ _ c.cleared.ensures _ c.clear_tables.ensures)
