-- `clear_patch` meets its contract: the entries of every page, or of one, lie in the store and become zero.
use mathlib.Core.Path.{refl}
use native.Mathlib.Omega.{arith}
use Rattle.store_desk.proofs.Size.{entries_le}
use Rattle.store_code.proofs.Laws.{patch_room, patch_cleared, page_room, page_small, page_cleared}
use Rattle.store_code.proofs.clear_patch.Goals as goal

pub overflow_mul-entries : goal.overflow_mul-entries
overflow_mul-entries c = let h = entries_le _ c.requires.fitting.range in omega (arith, c.entries.ensures)

pub zero-requires : goal.zero-requires
zero-requires c = patch_room _ c.requires.fitting c.patch_start-start.ensures c.entries.ensures

pub returns-then-page-eq0 : goal.returns-then-page-eq0
returns-then-page-eq0 c = patch_cleared _ _ _ _ c.if-page-eq0.true c.patch_start-start.ensures c.entries.ensures c.zero.ensures

pub overflow_mul-page : goal.overflow_mul-page
overflow_mul-page c = let h = page_small c.args.desk c.requires.page_bound c.if-page-eq0.false c.patch_start-start.ensures refl refl c.requires.fitting.range in omega arith

pub overflow_add-start : goal.overflow_add-start
overflow_add-start c = let h = page_small c.args.desk c.requires.page_bound c.if-page-eq0.false c.patch_start-start.ensures refl refl c.requires.fitting.range in omega arith

pub zero-requires-2 : goal.zero-requires-2
zero-requires-2 c = page_room _ c.requires.page_bound c.if-page-eq0.false c.patch_start-start.ensures refl refl c.requires.fitting

pub returns : goal.returns
returns c = page_cleared _ c.requires.page_bound c.if-page-eq0.false c.patch_start-start.ensures refl refl _ _ c.zero-2.ensures
