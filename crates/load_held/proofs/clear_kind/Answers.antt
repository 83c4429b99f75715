-- `clear_kind` meets its contract: support, then the page.
use mathlib.Core.Path.{◌∙◌}
use Rattle.load_held.proofs.Answers.{asked_as, rests_as}
use Rattle.load_held.proofs.Clearing.{kind_page, paged_bad, paged_good, kind_unsupported, kind_as, table_cleared}
use Rattle.load_held.proofs.clear_kind.Goals as goal

pub blamed_at-requires : goal.blamed_at-requires
blamed_at-requires c = c.requires.line.within

pub returns-in_default : goal.returns-in_default
returns-in_default c = asked_as _ _ _ (paged_bad _ _ c.in_default.is c.blamed_at.ensures ∙ kind_as _ _ _ c.supports.ensures c.if-not-supports.false c.pages.ensures c.page_at.ensures) (rests_as _ _ _ c.requires.held_ready c.ended-in_default.ensures)

pub clear_kind-requires : goal.clear_kind-requires
clear_kind-requires c = record { fitting = c.requires.fitting; page_lt_page_span = kind_page _ _ c.requires.fitting.range _ c.pages.ensures c.page_at.ensures c.in-Some.is }

pub returns : goal.returns
returns c = asked_as _ _ _ (paged_good _ _ c.in-Some.is ∙ kind_as _ _ _ c.supports.ensures c.if-not-supports.false c.pages.ensures c.page_at.ensures) (table_cleared _ _ _ c.cleared.ensures _ _ c.clear_kind.ensures)

pub returns-then-not-supports : goal.returns-then-not-supports
returns-then-not-supports c = asked_as _ _ _ (kind_unsupported _ _ _ c.supports.ensures c.if-not-supports.true) (rests_as _ _ _ c.requires.held_ready c.ended.ensures)
