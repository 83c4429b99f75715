-- Where a memory goes: the code's answers are the definitions' searches, a seat is one of the desk's slots, and the store is written there or
-- nowhere. By cases on what was found.
-- Assumes nothing.
use Rattle.std.specs.Prelude.{None, Option, Some}
use mathlib.Core.Path.{◌≡◌, refl, sym, ap, ◌∙◌, subst}
use mathlib.Core.Bool.{Bool, true}
use mathlib.Core.Logic.{◌⊎◌, inl, inr}
use mathlib.Core.List.{List}
use Prim.Native.Nat.{ℕ, ◌<◌}
use native.Mathlib.Omega.{arith}
use Rattle.cells.specs.Search.{Found, at, nowhere, first_from, IsFirst}
use Rattle.cells.proofs.Search.{first-at}
use Rattle.store_desk.specs.declared.Desk.{Desk}
use Rattle.store_desk.specs.declared.Key.{Key}
use Rattle.store_desk.specs.declared.Kind.{Kind}
use Rattle.store_desk.specs.declared.Kind.TheVariants.{Cue, Group, Sub}
use Rattle.store_desk.specs.Size.{Within, slots_of}
use Rattle.store_desk.specs.Name.{Name, first_slot, slot_count, pages_of, ok_name, ok_within, sub_slot}
use Rattle.store_desk.proofs.Name.{kind_end, ok_page_lem, ok_within_lem, ok_sub_lem, sub_inside}
use Rattle.store.specs.Slots.{put_slot, find, on_found, place_of}
use Rattle.store.specs.Change.{lowest_unused, new_seat, seat, started, blank_slot}
use Rattle.store_code.specs.Answer.{name_of, started_as, start_of}

-- ---- what the code answers is what was found
pub place_at : {f : Found} {p : Option ℕ} {i : ℕ} → p ≡ place_of f → p ≡ Some i → f ≡ at i
unfolding place_of
place_at {f} e q = place_at_by f (sym e ∙ q)
  where
    place_at_by : (f : Found) {i : ℕ} → place_of f ≡ Some i → f ≡ at i
    place_at_by (at j) r = cc
    place_at_by nowhere r = absurd (let z : ◌≡◌ {A = ℕ} 0 1 = cc in omega arith)

pub place_nowhere : {f : Found} {p : Option ℕ} → p ≡ place_of f → p ≡ None → f ≡ nowhere
unfolding place_of
place_nowhere {f} e q = place_nowhere_by f (sym e ∙ q)
  where
    place_nowhere_by : (f : Found) → place_of f ≡ None → f ≡ nowhere
    place_nowhere_by (at j) r = absurd (let z : ◌≡◌ {A = ℕ} 0 1 = cc in omega arith)
    place_nowhere_by nowhere r = refl

pub at_place : {f : Found} {i : ℕ} → at i ≡ f → Some i ≡ place_of f
unfolding place_of
at_place e = ap place_of e

pub nowhere_place : {f : Found} → nowhere ≡ f → None ≡ place_of f
unfolding place_of
nowhere_place e = ap place_of e

-- ---- a submaster's place
pub sub_range : (d : Desk) (k : Kind) (key : Key) → k ≡ Sub → ok_name d (name_of k key) ≡ true
    → Within 1 key.page d.sub_pages × Within 1 key.whole d.subs
unfolding pages_of ok_within
sub_range d k key e o =
    let o₂ : ok_name d (name_of Sub key) ≡ true = subst (λ (z : Kind). ok_name d (name_of z key) ≡ true) e o in
    (ok_page_lem d (name_of Sub key) o₂, (ok_sub_lem d key.whole key.fraction (ok_within_lem d (name_of Sub key) o₂)).0)

-- ---- where a memory goes
pub new_lowest : (d : Desk) (s : List ℕ) (k : Kind) (key : Key) {p : Option ℕ} → (k ≡ Cue) ⊎ (k ≡ Group) → p ≡ place_of (lowest_unused d s k) → p ≡ place_of (new_seat d s k key)
unfolding new_seat
new_lowest d s k key {p} (inl e) q = subst (λ (z : Kind). p ≡ place_of (lowest_unused d s z) → p ≡ place_of (new_seat d s z key)) (sym e) (λ r. r) q
new_lowest d s k key {p} (inr e) q = subst (λ (z : Kind). p ≡ place_of (lowest_unused d s z) → p ≡ place_of (new_seat d s z key)) (sym e) (λ r. r) q

pub new_sub : (d : Desk) (s : List ℕ) (k : Kind) (key : Key) {i : ℕ} → k ≡ Sub → i ≡ sub_slot d key → Some i ≡ place_of (new_seat d s k key)
unfolding new_seat place_of
new_sub d s k key {i} e q = ap Some q ∙ ap (λ (z : Kind). place_of (new_seat d s z key)) (sym e)

module _ (d : Desk) (s : List ℕ) (n : Name) where
  pub seat_kept : {p : Option ℕ} {i : ℕ} → p ≡ place_of (find d s n) → p ≡ Some i → Some i ≡ place_of (seat d s n)
  unfolding seat on_found place_of
  seat_kept {p} {i} e q =
      let g : find d s n ≡ at i = place_at e q in
      ap (λ (f : Found). place_of (on_found f (λ j. at j) (new_seat d s n.kind n.key))) (sym g)

  pub seat_new : {p q : Option ℕ} → p ≡ place_of (find d s n) → p ≡ None → q ≡ place_of (new_seat d s n.kind n.key) → q ≡ place_of (seat d s n)
  unfolding seat on_found
  seat_new e q r =
      let g : find d s n ≡ nowhere = place_nowhere e q in
      r ∙ ap (λ (f : Found). place_of (on_found f (λ i. at i) (new_seat d s n.kind n.key))) (sym g)

  pub start_at_lem : {p : Option ℕ} {i : ℕ} {t : List ℕ} → p ≡ place_of (seat d s n) → p ≡ Some i → t ≡ put_slot d s i (blank_slot d n.key)
      → started_as (Some i) t ≡ start_of d s n
  unfolding start_of started on_found place_of
  start_at_lem {p} {i} {t} e q r =
      let g : seat d s n ≡ at i = place_at e q in
      ap (λ (z : List ℕ). started_as (Some i) z) r
      ∙ ap (λ (f : Found). started_as (place_of f) (on_found f (λ j. put_slot d s j (blank_slot d n.key)) s)) (sym g)

  pub start_full : {p : Option ℕ} → p ≡ place_of (seat d s n) → p ≡ None → started_as None s ≡ start_of d s n
  unfolding start_of started on_found place_of
  start_full e q =
      let g : seat d s n ≡ nowhere = place_nowhere e q in
      ap (λ (f : Found). started_as (place_of f) (on_found f (λ j. put_slot d s j (blank_slot d n.key)) s)) (sym g)

-- it is one of the desk's slots
found_inside : (d : Desk) (k : Kind) (p : ℕ → Bool) (i : ℕ) → first_from p (slot_count d k) (first_slot d k) ≡ at i → i < slots_of d
found_inside d k p i e =
    let r : IsFirst p (slot_count d k) (first_slot d k) i = first-at p (slot_count d k) (first_slot d k) i e in
    let a = r.below in
    let b = kind_end d k in
    omega arith

new_inside : (d : Desk) (s : List ℕ) (k : Kind) (key : Key) (i : ℕ) → ok_name d (name_of k key) ≡ true → new_seat d s k key ≡ at i → i < slots_of d
unfolding new_seat lowest_unused
new_inside d s Cue key i o e = found_inside d Cue _ i e
new_inside d s Group key i o e = found_inside d Group _ i e
new_inside d s Sub key i o e =
    let r = sub_range d Sub key refl o in
    let a = sub_inside d key r.0 r.1 in
    let b = kind_end d Sub in
    let q : sub_slot d key ≡ i = cc in
    omega arith

pub seat_inside : (d : Desk) (s : List ℕ) (k : Kind) (key : Key) {p : Option ℕ} {i : ℕ} → ok_name d (name_of k key) ≡ true → p ≡ place_of (seat d s (name_of k key)) → p ≡ Some i → i < slots_of d
unfolding seat on_found find
seat_inside d s k key {p} {i} o e q = cases (find d s (name_of k key)) refl
  where
    cases : (f : Found) → find d s (name_of k key) ≡ f → i < slots_of d
    cases (at j) g =
        let a : seat d s (name_of k key) ≡ at j = ap (λ (f : Found). on_found f (λ i. at i) (new_seat d s k key)) g in
        let b : at i ≡ at j = sym (place_at e q) ∙ a in
        let c : i ≡ j = cc in
        let l : j < slots_of d = found_inside d k _ j g in
        omega arith
    cases nowhere g =
        let a : seat d s (name_of k key) ≡ new_seat d s k key = ap (λ (f : Found). on_found f (λ i. at i) (new_seat d s k key)) g in
        new_inside d s k key i o (sym a ∙ place_at e q)

pub find_inside : (d : Desk) (s : List ℕ) (n : Name) {p : Option ℕ} {i : ℕ} → p ≡ place_of (find d s n) → p ≡ Some i → i < slots_of d
unfolding find
find_inside d s n {p} {i} e q = found_inside d n.kind _ i (place_at e q)

-- ---- what a caller reads off the answer
