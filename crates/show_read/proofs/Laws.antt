-- The readers' definitions case by case, in the form in which the code has its tests; by unfolding and the tests' values.
-- Assumes nothing.
use Rattle.std.specs.Prelude.{None, Ok, Option, Result, Some, cond}
use Rattle.std.proofs.lemmas.Option.{none-some, same_Some}
use mathlib.Core.Path.{◌≡◌, refl, sym, ap, ◌∙◌, subst}
use mathlib.Core.Bool.{Bool, true, false}
use mathlib.Core.List.{List}
use Prim.Native.Nat.{ℕ, ◌-◌, ◌≤◌, ◌<◌}
use native.Mathlib.Omega.{arith}
use lib.Dec.{eqb}
use borrow.Author.Tests.{eq-eqb, ne_eqb}
use Rattle.cells.specs.Search.{Found, at, nowhere}
use Rattle.cells.proofs.Split.{by_eq, cond-true, cond-false}
use Rattle.store_desk.specs.declared.Desk.{Desk}
use Rattle.store_desk.specs.declared.Kind.{Kind}
use Rattle.store_desk.specs.declared.Kind.TheVariants.{Cue, Group, Sub}
use Rattle.store_desk.specs.Size.{Within, slots_of}
use Rattle.store_desk.specs.Name.{kind_by, has_slot, has_dimmer}
use Rattle.store_desk.proofs.Size.{within_true, all_none, all_more}
use Rattle.store_desk.proofs.Name.{slot_there, dimmer_there}
use Rattle.store_head.specs.declared.Head.{Head}
use Rattle.store_head.specs.declared.Patch.{Patch}
use Rattle.store.specs.Slots.{head_at, place_of}
use Rattle.store.specs.View.{patched_to}
use Rattle.store_code.specs.Fits.{OnPatch}
use Rattle.store_code.proofs.Found.{place_at, at_place, nowhere_place}
use Rattle.save.specs.Listed.{Slots, slots, slots_in, slot_numbers}
use Rattle.show.specs.Calls.{lent_admission, admission_of}
use Rattle.show_read.specs.Calls.{listed_as, list_reply, list_of, kind_list, memories_by, memories_call}
use Rattle.show_read.specs.Calls.{slot_named, head_reply, head_in, head_by, head_call, levels_by, levels_call, patch_reply, patch_in, patch_by, patch_call}
use Rattle.store_desk.specs.declared.Refusal.{Refusal}

-- ---- memories

pub memories_by_lem : (d : Desk) (s : List ℕ) (n : ℕ) (l : List ℕ) (a : Result Unit Refusal) → a ≡ admission_of d s → memories_by a d s n l ≡ memories_call d s n l
unfolding memories_call
memories_by_lem d s n l a e = ap (λ (b : Result Unit Refusal). memories_by b d s n l) e

module _ (d : Desk) (s : List ℕ) (n : ℕ) (l : List ℕ) where
  list_is : (k : Kind) {r : ℕ} {t : List ℕ} → slots r t ≡ slots_in l (slot_numbers d s k) → listed_as (list_reply (Ok (Some r))) t ≡ list_of d s k l
  unfolding list_of slots_in
  list_is k e = ap (λ (x : Slots). listed_as (list_reply (Ok (Some x.count))) x.list) e

  pub list_cues : {r : ℕ} {t : List ℕ} → n ≡ 0 → slots r t ≡ slots_in l (slot_numbers d s Cue)
      → listed_as (list_reply (Ok (Some r))) t ≡ kind_list d s n l
  unfolding kind_list
  list_cues e f = list_is Cue f ∙ sym (cond-true (eqb n 0) _ _ (eq-eqb n 0 e))

  pub list_groups : {r : ℕ} {t : List ℕ} → (n ≡ 0 → ⊥) → n ≡ 1 → slots r t ≡ slots_in l (slot_numbers d s Group)
      → listed_as (list_reply (Ok (Some r))) t ≡ kind_list d s n l
  unfolding kind_list
  list_groups a e f = list_is Group f ∙ sym (cond-false (eqb n 0) _ _ (ne_eqb n 0 a) ∙ cond-true (eqb n 1) _ _ (eq-eqb n 1 e))

  pub list_subs : {r : ℕ} {t : List ℕ} → (n ≡ 0 → ⊥) → (n ≡ 1 → ⊥) → n ≡ 2 → slots r t ≡ slots_in l (slot_numbers d s Sub)
      → listed_as (list_reply (Ok (Some r))) t ≡ kind_list d s n l
  unfolding kind_list
  list_subs a b e f =
      list_is Sub f
      ∙ sym (cond-false (eqb n 0) _ _ (ne_eqb n 0 a) ∙ cond-false (eqb n 1) _ _ (ne_eqb n 1 b) ∙ cond-true (eqb n 2) _ _ (eq-eqb n 2 e))

  pub list_none : (n ≡ 0 → ⊥) → (n ≡ 1 → ⊥) → (n ≡ 2 → ⊥) → listed_as (list_reply (Ok None)) l ≡ kind_list d s n l
  unfolding kind_list
  list_none a b c =
      sym (cond-false (eqb n 0) _ _ (ne_eqb n 0 a) ∙ cond-false (eqb n 1) _ _ (ne_eqb n 1 b) ∙ cond-false (eqb n 2) _ _ (ne_eqb n 2 c))

  named_behind : (n ≡ 0 → ⊥) → (n ≡ 1 → ⊥) → kind_by n ≡ cond (eqb n 2) (Some Sub) None
  named_behind a b = cond-false (eqb n 0) _ _ (ne_eqb n 0 a) ∙ cond-false (eqb n 1) _ _ (ne_eqb n 1 b)

  -- by the kind that the number names
  pub list_kind : {k : Kind} {r : ℕ} {t : List ℕ} → kind_by n ≡ Some k → slots r t ≡ slots_in l (slot_numbers d s k)
      → listed_as (list_reply (Ok (Some r))) t ≡ kind_list d s n l
  list_kind {k} {r} {t} h f =
      by_eq n 0
      (λ e. list_cues e (of Cue (sym (cond-true (eqb n 0) _ _ (eq-eqb n 0 e)) ∙ h)))
      (λ a. by_eq n 1
      (λ e. list_groups a e (of Group (sym (cond-false (eqb n 0) _ _ (ne_eqb n 0 a) ∙ cond-true (eqb n 1) _ _ (eq-eqb n 1 e)) ∙ h)))
      (λ b. by_eq n 2
      (λ e. list_subs a b e (of Sub (sym (named_behind a b ∙ cond-true (eqb n 2) _ _ (eq-eqb n 2 e)) ∙ h)))
      (λ c. absurd (none-some k (sym (named_behind a b ∙ cond-false (eqb n 2) _ _ (ne_eqb n 2 c)) ∙ h)))))
    where
      of : (x : Kind) → Some x ≡ Some k → slots r t ≡ slots_in l (slot_numbers d s x)
      of x e = subst (λ (y : Kind). slots r t ≡ slots_in l (slot_numbers d s y)) (sym (same_Some x k e)) f

  pub list_no_kind : kind_by n ≡ None → listed_as (list_reply (Ok None)) l ≡ kind_list d s n l
  list_no_kind h =
      by_eq n 0
      (λ e. absurd (none-some Cue (sym h ∙ cond-true (eqb n 0) _ _ (eq-eqb n 0 e))))
      (λ a. by_eq n 1
      (λ e. absurd (none-some Group (sym h ∙ cond-false (eqb n 0) _ _ (ne_eqb n 0 a) ∙ cond-true (eqb n 1) _ _ (eq-eqb n 1 e))))
      (λ b. by_eq n 2
      (λ e. absurd (none-some Sub (sym h ∙ named_behind a b ∙ cond-true (eqb n 2) _ _ (eq-eqb n 2 e))))
      (λ c. list_none a b c)))

-- ---- slots and dimmers that the desk has

pub there_slot : (d : Desk) (n : ℕ) → Within 1 n (slots_of d) → has_slot d n ≡ true
unfolding has_slot
there_slot d n w = within_true 1 n (slots_of d) w

pub there_dimmer : (d : Desk) (page dimmer : ℕ) → Within 1 page d.patch_pages × Within 1 dimmer d.dimmers
    → has_dimmer d page dimmer ≡ true
unfolding has_dimmer
there_dimmer d page dimmer w = all_more _ _ (within_true 1 page _ w.0) (all_more _ _ (within_true 1 dimmer _ w.1) all_none)

-- ---- a slot by its number

module _ (d : Desk) (n : ℕ) where
  pub named_at : {b : Bool} {p : ℕ} → b ≡ has_slot d n → b ≡ true → p ≡ n → Some (p - 1) ≡ place_of (slot_named d n)
  unfolding slot_named
  named_at {b} {p} e t q = at_place (ap (λ (x : ℕ). at (x - 1)) q ∙ sym (cond-true (has_slot d n) _ _ (sym e ∙ t)))

  pub named_none : {b : Bool} → b ≡ has_slot d n → b ≡ false → None ≡ place_of (slot_named d n)
  unfolding slot_named
  named_none e t = nowhere_place (sym (cond-false (has_slot d n) _ _ (sym e ∙ t)))

  pub named_some : {b : Bool} → b ≡ has_slot d n → b ≡ true → 1 ≤ n
  named_some e t = (slot_there d n (sym e ∙ t)).0

  -- it is one of the desk's
  pub named_inside : {p : Option ℕ} {i : ℕ} → p ≡ place_of (slot_named d n) → p ≡ Some i → i < slots_of d
  unfolding slot_named
  named_inside {p} {i} e q = cases (has_slot d n) refl
    where
      cases : (b : Bool) → has_slot d n ≡ b → i < slots_of d
      cases true t =
          let f : at (n - 1) ≡ at i = sym (cond-true (has_slot d n) _ _ t) ∙ place_at e q in
          let g : n - 1 ≡ i = cc in
          let w = slot_there d n t in
          let low = w.0 in
          let high = w.1 in
          omega arith
      cases false t = absurd (apart (sym (cond-false (has_slot d n) (at (n - 1)) nowhere t) ∙ place_at e q))
        where
          apart : nowhere ≡ at i → ⊥
          apart f = let z : ◌≡◌ {A = ℕ} 0 1 = cc in omega arith

-- ---- head, levels, patch

pub head_by_lem : (d : Desk) (s : List ℕ) (n : ℕ) (a : Result Unit Refusal) → a ≡ lent_admission d s → head_by a d s n ≡ head_call d s n
unfolding head_call
head_by_lem d s n a e = ap (λ (b : Result Unit Refusal). head_by b d s n) e

pub head_at_lem : (d : Desk) (s : List ℕ) {f : Found} {i : ℕ} {h : Head} → f ≡ at i → h ≡ head_at d s i → head_reply (Ok (Some h)) ≡ head_in d s f
unfolding head_in
head_at_lem d s e q = ap (λ (x : Head). head_reply (Ok (Some x))) q ∙ sym (ap (head_in d s) e)

pub head_none : (d : Desk) (s : List ℕ) {f : Found} → f ≡ nowhere → head_reply (Ok None) ≡ head_in d s f
unfolding head_in
head_none d s e = sym (ap (head_in d s) e)

pub levels_by_lem : (d : Desk) (s : List ℕ) (n : ℕ) (a : Result Unit Refusal) → a ≡ lent_admission d s → levels_by a d n ≡ levels_call d s n
unfolding levels_call
levels_by_lem d s n a e = ap (λ (b : Result Unit Refusal). levels_by b d n) e

pub patch_by_lem : (d : Desk) (s : List ℕ) (page dimmer : ℕ) (a : Result Unit Refusal) → a ≡ lent_admission d s
    → patch_by a d s page dimmer ≡ patch_call d s page dimmer
unfolding patch_call
patch_by_lem d s page dimmer a e = ap (λ (b : Result Unit Refusal). patch_by b d s page dimmer) e

pub on_patch : (d : Desk) (page dimmer : ℕ) {b : Bool} → b ≡ has_dimmer d page dimmer → b ≡ true → OnPatch d page dimmer
on_patch d page dimmer e t = let w = dimmer_there d page dimmer (sym e ∙ t) in record { on_page = w.0; on_dimmer = w.1 }

module _ (d : Desk) (s : List ℕ) (page dimmer : ℕ) {b : Bool} (e : b ≡ has_dimmer d page dimmer) where
  pub patch_at : b ≡ true → {p : Patch} → p ≡ patched_to d s page dimmer → patch_reply (Ok (Some p)) ≡ patch_in d s page dimmer
  unfolding patch_in
  patch_at t q = ap (λ (x : Patch). patch_reply (Ok (Some x))) q ∙ sym (cond-true (has_dimmer d page dimmer) _ _ (sym e ∙ t))

  pub patch_none : b ≡ false → patch_reply (Ok None) ≡ patch_in d s page dimmer
  unfolding patch_in
  patch_none t = sym (cond-false (has_dimmer d page dimmer) _ _ (sym e ∙ t))
