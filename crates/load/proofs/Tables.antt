-- CLEAR ALL: which tables have a page, and that some table has it exactly where it is not beyond the highest page of all. By cases on the
-- tables, and on the field.
-- Assumes nothing.
use Rattle.std.specs.Prelude.{None, Option, Some}
use mathlib.Core.Path.{◌≡◌, refl, ap, ◌∙◌}
use mathlib.Core.List.{List, [], ◌∷◌}
use Prim.Native.Nat.{ℕ, ◌≤◌, ◌<◌}
use native.Mathlib.Omega.{arith}
use lib.Dec.{eqb, ltb, leb}
use borrow.Author.Tests.{ltb-true, ltb-false, le-leb, lt-leb, le-ltb}
use Rattle.cells.proofs.Split.{by_bool, by_le, cond-true, cond-false}
use Rattle.store_desk.specs.declared.Desk.{Desk}
use Rattle.store_desk.specs.declared.Kind.{Kind}
use Rattle.store_desk.specs.declared.Kind.TheVariants.{Cue, Group, Sub}
use Rattle.text_fields.specs.Words.{Word, missing, head_of}
use Rattle.value.specs.Integer.{cap, integer_of, AtMost}
use Rattle.value.specs.Field.{paged_of, page_of}
use Rattle.value.proofs.Digits.{integer_capped}
use Rattle.store.specs.Change.{every_page}
use Rattle.load.specs.Ask.{table, dimmers, clears, page_at, paged_ask, table_pages, kind_wipes, dimmer_wipes, all_wipes, wipes_ask, tables_ask, all_ask}
use Rattle.load.specs.Fits.{highest_page}

-- ---- a table that has the page, and one that has it not
module _ (d : Desk) (p : ℕ) where
  pub kind_has : (k : Kind) → p ≤ table_pages d k → kind_wipes d p k ≡ table k p ∷ []
  unfolding kind_wipes
  kind_has k h = cond-true (leb p (table_pages d k)) (table k p ∷ []) [] (le-leb p (table_pages d k) h)

  pub kind_lacks : (k : Kind) → table_pages d k < p → kind_wipes d p k ≡ []
  unfolding kind_wipes
  kind_lacks k h = cond-false (leb p (table_pages d k)) (table k p ∷ []) [] (lt-leb p (table_pages d k) h)

  pub dimmers_have : p ≤ d.patch_pages → dimmer_wipes d p ≡ dimmers p ∷ []
  unfolding dimmer_wipes
  dimmers_have h = cond-true (leb p d.patch_pages) (dimmers p ∷ []) [] (le-leb p d.patch_pages h)

  pub dimmers_lack : d.patch_pages < p → dimmer_wipes d p ≡ []
  unfolding dimmer_wipes
  dimmers_lack h = cond-false (leb p d.patch_pages) (dimmers p ∷ []) [] (lt-leb p d.patch_pages h)

-- ---- the highest page
pub table_most : (d : Desk) (k : Kind) → table_pages d k ≤ highest_page d
unfolding highest_page
table_most d Cue = omega arith
table_most d Group = omega arith
table_most d Sub = omega arith

pub patch_most : (d : Desk) → d.patch_pages ≤ highest_page d
unfolding highest_page
patch_most d = omega arith

pub wipes_none : (d : Desk) (p : ℕ) → highest_page d < p → all_wipes d p ≡ []
unfolding all_wipes
wipes_none d p h =
    let c = table_most d Cue in
    let g = table_most d Group in
    let s = table_most d Sub in
    let q = patch_most d in
    rw (dimmers_lack d p (omega arith), kind_lacks d p Cue (omega arith), kind_lacks d p Group (omega arith), kind_lacks d p Sub (omega arith)) refl

wipes_some : (d : Desk) (w : Word) (p : ℕ) → p ≤ highest_page d → wipes_ask w (all_wipes d p) ≡ clears (all_wipes d p)
unfolding all_wipes wipes_ask highest_page
wipes_some d w p h =
    by_le p d.patch_pages
    (λ a. rw (dimmers_have d p a) refl)
    (λ a.
    by_le p (table_pages d Cue)
    (λ b. rw (dimmers_lack d p a, kind_has d p Cue b) refl)
    (λ b.
    by_le p (table_pages d Group)
    (λ c. rw (dimmers_lack d p a, kind_lacks d p Cue b, kind_has d p Group c) refl)
    (λ c.
    by_le p (table_pages d Sub)
    (λ e. rw (dimmers_lack d p a, kind_lacks d p Cue b, kind_lacks d p Group c, kind_has d p Sub e) refl)
    (λ e. absurd (omega arith)))))

-- ---- so that CLEAR ALL's page is one up to the highest
paged_ask_lem : (d : Desk) (w : Word) (i : Option ℕ) → AtMost cap i
    → tables_ask d w (paged_of cap i) ≡ paged_ask w (paged_of (highest_page d) i) (all_wipes d)
unfolding paged_of tables_ask paged_ask
paged_ask_lem d w None h = refl
paged_ask_lem d w (Some v) h =
    by_bool (eqb v 0)
    (λ e. rw e refl)
    (λ e.
    rw (e, le-ltb cap v h)
    (by_bool (ltb (highest_page d) v)
    (λ f. rw f (ap (wipes_ask w) (wipes_none d v (ltb-true (highest_page d) v f)) ∙ unfold wipes_ask in refl))
    (λ f. rw f (wipes_some d w v (ltb-false (highest_page d) v f)))))

pub all_ask_lem : (d : Desk) (ws : List Word) → all_ask d ws ≡ paged_ask (head_of ws) (page_at every_page (highest_page d) ws) (all_wipes d)
unfolding all_ask page_at page_of tables_ask paged_ask
all_ask_lem d [] = wipes_some d missing every_page (let h : every_page ≤ highest_page d = omega arith in h)
all_ask_lem d (w ∷ ws) = paged_ask_lem d w (integer_of w.chars) (integer_capped w.chars)
