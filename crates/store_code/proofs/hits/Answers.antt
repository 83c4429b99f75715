-- `hits` meets its contract: the number of the key is in the range of a page, or of all, exactly where the head says so.
use native.Mathlib.Omega.{arith}
use mathlib.Core.Path.{◌≡◌, ◌∙◌}
use Prim.Native.Nat.{ℕ}
use lib.Dec.{leb, ltb}
use Rattle.std.proofs.Common.{nat_cmp, is_le, is_lt}
use Rattle.std.proofs.lemmas.Bool.Decides.{nat_tests}
use Rattle.store_head.proofs.Laws.{word_sum}
use Rattle.store_code.proofs.Word.{hits_every, hits_within}
use Rattle.store_code.proofs.hits.Goals as goal

le_is : (a b : ℕ) → is_le (nat_cmp a b) ≡ leb a b
le_is a b = grind (arith, nat_tests)

lt_is : (a b : ℕ) → is_lt (nat_cmp a b) ≡ ltb a b
lt_is a b = grind (arith, nat_tests)

pub returns-then-page-eq0 : goal.returns-then-page-eq0
returns-then-page-eq0 c = hits_every _ _ _ c.requires.fitting c.requires.slot_bound (λ j. (c.type_inv.store j).fits) c.word_at-word.ensures _ c.if-page-eq0.true

pub overflow_add-first : goal.overflow_add-first
overflow_add-first c = let w = word_sum 1 c.args.page 0 0 in let p = c.requires.page_lt_page_span in omega (arith, c.quick_key-first.ensures)

pub returns : goal.returns
returns c = (rw (le_is, lt_is) at c.contains.ensures.value) ∙ hits_within _ _ _ c.requires.fitting c.requires.slot_bound (λ j. (c.type_inv.store j).fits) _ c.word_at-word.ensures c.if-page-eq0.false c.quick_key-first.ensures
