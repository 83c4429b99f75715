-- What a CLEAR removes on two desks: the same on both, and on the larger alone what the smaller cannot have. By the ranges of the names that
-- a desk can have, and cases on whether each desk has the page.
-- Assumes nothing.
use mathlib.Core.Path.{◌≡◌, refl, sym, ap, ◌∙◌, subst}
use mathlib.Core.Bool.{Bool, true, false, cond, ◌||◌}
use mathlib.Core.List.{List, [], ◌∷◌, ◌++◌}
use Prim.Native.Nat.{ℕ, ◌≤◌, ◌<◌}
use native.Mathlib.Omega.{arith}
use lib.Dec.{eqb, leb}
use borrow.Author.Tests.{leb-true, leb-false, le-leb, eqb-true, ne_eqb}
use Rattle.cells.proofs.Split.{by_bool, cond-true, clash, and_left, and_right, by_or, or_false}
use Rattle.store_desk.specs.declared.Desk.{Desk}
use Rattle.store_desk.specs.declared.Kind.{Kind}
use Rattle.store_desk.specs.declared.Kind.TheVariants.{Cue, Group, Sub}
use Rattle.store_desk.specs.Size.{Within}
use Rattle.store_desk.specs.Name.{Name, eq_kind, pages_of, supported, ok_name}
use Rattle.store_desk.proofs.Name.{eq_kind_lem, ok_supported, ok_page_lem}
use Rattle.store.specs.Change.{every_page, on_page, hits}
use Rattle.load.specs.Ask.{Wipe, table, dimmers, table_pages, kind_wipes, dimmer_wipes, all_wipes}
use Rattle.load.specs.Fits.{highest_page}
use Rattle.theorem_rehearse.specs.Rehearse.{Larger}
use Rattle.theorem_rehearse.specs.Frame.{wipes_memory, wipes_dimmers}
use Rattle.load.proofs.Tables.{wipes_none}
use Rattle.theorem_rehearse.proofs.Fields.{by_tests, more_tables}

-- it removes nothing that the desk can have
abbrev Beyond : Desk → Wipe → Type 0
Beyond d (table k p) = (m : Name) → ok_name d m ≡ true → hits k p m ≡ false
Beyond d (dimmers p) = (q : ℕ) → Within 1 q d.patch_pages → on_page p q ≡ false

pub data Wipes (d : Desk) : List Wipe → List Wipe → Type 0 where
  none : Wipes d [] []
  both : {xs XS : List Wipe} (w : Wipe) → Wipes d xs XS → Wipes d (w ∷ xs) (w ∷ XS)
  right : {xs XS : List Wipe} (w : Wipe) → Beyond d w → Wipes d xs XS → Wipes d xs (w ∷ XS)

-- ---- of what the smaller can have, both remove the same
module _ (d : Desk) where
  pub memories_alike : {xs XS : List Wipe} → Wipes d xs XS → (m : Name) → ok_name d m ≡ true → wipes_memory xs m ≡ wipes_memory XS m
  unfolding wipes_memory
  memories_alike none m o = refl
  memories_alike (both (table k p) h) m o = ap (λ (x : Bool). hits k p m || x) (memories_alike h m o)
  memories_alike (both (dimmers p) h) m o = memories_alike h m o
  memories_alike (right {XS = XS} (table k p) b h) m o = memories_alike h m o ∙ sym (ap (λ (x : Bool). x || wipes_memory XS m) (b m o))
  memories_alike (right (dimmers p) b h) m o = memories_alike h m o

  pub dimmers_alike : {xs XS : List Wipe} → Wipes d xs XS → (q : ℕ) → Within 1 q d.patch_pages → wipes_dimmers xs q ≡ wipes_dimmers XS q
  unfolding wipes_dimmers
  dimmers_alike none q w = refl
  dimmers_alike (both (table k p) h) q w = dimmers_alike h q w
  dimmers_alike (both (dimmers p) h) q w = ap (λ (x : Bool). on_page p q || x) (dimmers_alike h q w)
  dimmers_alike (right (table k p) b h) q w = dimmers_alike h q w
  dimmers_alike (right {XS = XS} (dimmers p) b h) q w = dimmers_alike h q w ∙ sym (ap (λ (x : Bool). x || wipes_dimmers XS q) (b q w))

  joined : {a A b B : List Wipe} → Wipes d a A → Wipes d b B → Wipes d (a ++ b) (A ++ B)
  joined none h = h
  joined (both w g) h = both w (joined g h)
  joined (right w b g) h = right w b (joined g h)

  -- ---- what the smaller cannot have: another kind, a page beyond its own
  hit_kind : (k : Kind) (p : ℕ) (m : Name) → hits k p m ≡ true → m.kind ≡ k
  unfolding hits
  hit_kind k p m h = sym (eq_kind_lem k m.kind (and_left (eq_kind k m.kind) (on_page p m.key.page) h))

  hit_page : (k : Kind) (p : ℕ) (m : Name) → ok_name d m ≡ true → hits k p m ≡ true → p ≤ pages_of d m.kind
  unfolding hits
  hit_page k p m o h =
      let w = ok_page_lem d m o in
      by_or (eqb p every_page) (eqb p m.key.page) (and_right (eq_kind k m.kind) (on_page p m.key.page) h)
      (λ e. let z : p ≡ 0 = eqb-true p 0 e in omega arith)
      (λ e. let z : p ≡ m.key.page = eqb-true p m.key.page e in omega arith)

  pub kindless : (k : Kind) (p : ℕ) → supported d k ≡ false → Beyond d (table k p)
  kindless k p e m o =
      by_bool (hits k p m)
      (λ h. clash (subst (λ (x : Kind). supported d x ≡ true) (hit_kind k p m h) (ok_supported d m o)) e)
      (λ h. h)

  pub pageless : (k : Kind) (p : ℕ) → pages_of d k < p → Beyond d (table k p)
  pageless k p l m o =
      by_bool (hits k p m)
      (λ h. absurd (let z = subst (λ (x : Kind). p ≤ pages_of d x) (hit_kind k p m h) (hit_page k p m o h) in omega arith))
      (λ h. h)

  pub dimmerless : (p : ℕ) → d.patch_pages < p → Beyond d (dimmers p)
  dimmerless p l q w = or_false (eqb p every_page) (eqb p q) (ne_eqb p 0 (omega arith)) (ne_eqb p q (omega arith))

  tableless : (k : Kind) (p : ℕ) → table_pages d k < p → Beyond d (table k p)
  unfolding table_pages
  tableless k p l =
      by_bool (supported d k)
      (λ e. pageless k p (subst (λ (x : ℕ). x < p) (cond-true (supported d k) (pages_of d k) 0 e) l))
      (λ e. kindless k p e)

-- ---- CLEAR ALL
module _ (d D : Desk) (l : Larger d D) (p : ℕ) where
  one_wipe : (w : Wipe) (limit Limit : ℕ) → limit ≤ Limit → (limit < p → Beyond d w)
      → Wipes d (cond (leb p limit) (w ∷ []) []) (cond (leb p Limit) (w ∷ []) [])
  one_wipe w limit Limit m b =
      by_tests (Wipes d) (leb p limit) (leb p Limit) (λ e. let h = leb-true p limit e in le-leb p Limit (omega arith)) (w ∷ []) [] (w ∷ []) []
      (λ e. both w none)
      (λ e E. right w (b (leb-false p limit e)) none)
      (λ E. none)

  kind_wipes_lem : (k : Kind) → Wipes d (kind_wipes d p k) (kind_wipes D p k)
  unfolding kind_wipes
  kind_wipes_lem k = one_wipe (table k p) (table_pages d k) (table_pages D k) (more_tables d D l k) (tableless d k p)

  pub all_wipes_lem : Wipes d (all_wipes d p) (all_wipes D p)
  unfolding all_wipes dimmer_wipes
  all_wipes_lem =
      joined d (one_wipe (dimmers p) d.patch_pages D.patch_pages l.patch_pages_of (dimmerless d p))
      (joined d (kind_wipes_lem Cue) (joined d (kind_wipes_lem Group) (kind_wipes_lem Sub)))

  -- a page beyond all tables
  pub all_beyond : highest_page d < p → Wipes d [] (all_wipes D p)
  all_beyond h = rw (wipes_none d p h) at all_wipes_lem
