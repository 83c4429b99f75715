-- Each reader's number is that of the first of its lines that holds, and its place that of the search that found it.
-- Assumes nothing.
use Rattle.std.specs.Prelude.{Err, Ok, Option, Result}
use mathlib.Core.Path.{◌≡◌, refl, sym, ap, subst}
use mathlib.Core.List.{List, [], ◌∷◌}
use mathlib.Core.Logic.{inl, inr}
use Prim.Native.Nat.{ℕ}
use native.Mathlib.Omega.{arith}
use lib.Dec.{eqb}
use borrow.Author.Tests.{eqb-true, eqb-false}
use Rattle.cells.specs.Search.{Found, at, nowhere}
use Rattle.cells.proofs.Split.{by_test, clash}
use Rattle.store_desk.specs.declared.Desk.{Desk}
use Rattle.store_desk.specs.Name.{has_slot, has_dimmer}
use Rattle.store_desk.specs.Refusal.{Reply}
use Rattle.store_desk.proofs.Name.{slot_there, dimmer_there}
use Rattle.show.specs.Calls.{lent_admission, admission_of, find_reply, placed_at}
use Rattle.show.specs.Refusals.{PlaceTold}
use Rattle.show.proofs.Laws.{away_reply}
use Rattle.show.proofs.Refusals.{First, told, apart, other, store_first, lent_first, Said, small_said, kept_said, placed_said, store_said, lent_said}
use Rattle.show_read.specs.Calls.{ListCall, list_reply, list_of, kind_list, memories_by, memories_call, MemoriesPromise}
use Rattle.show_read.specs.Calls.{slot_named, head_reply, head_in, head_by, head_call, HeadPromise, levels_by, levels_call, LevelsPromise}
use Rattle.show_read.specs.Calls.{patch_reply, patch_in, patch_by, patch_call, PatchPromise}
use Rattle.show_read.proofs.Laws.{there_slot, there_dimmer}
use Rattle.show_read.specs.Refusals.{no_kind, no_slot, no_dimmer, MemoriesRefused, SlotRefused, PatchRefused}
use Rattle.store_head.specs.declared.Head.{Head}
use Rattle.store_head.specs.declared.Patch.{Patch}
use Rattle.store_desk.specs.declared.Refusal.{Refusal}

-- ---- the tests are the lines

kind_first : (d : Desk) (s : List ℕ) (n : ℕ) (l : List ℕ) → First (no_kind n ∷ []) (kind_list d s n l).reply.number
unfolding First kind_list list_of
kind_first d s n l =
    by_test (λ (x : ListCall). First (no_kind n ∷ []) x.reply.number) (eqb n 0) _ _
    (λ e. let z = eqb-true n 0 e in inr (λ h. omega arith, refl))
    (λ e.
    by_test (λ (x : ListCall). First (no_kind n ∷ []) x.reply.number) (eqb n 1) _ _
    (λ f. let z = eqb-true n 1 f in inr (λ h. omega arith, refl))
    (λ f.
    by_test (λ (x : ListCall). First (no_kind n ∷ []) x.reply.number) (eqb n 2) _ _
    (λ g. let z = eqb-true n 2 g in inr (λ h. omega arith, refl))
    (λ g. let a = eqb-false n 0 e in let b = eqb-false n 1 f in let c = eqb-false n 2 g in inl (omega arith, refl))))

slot_first : (d : Desk) (n : ℕ) (number : Found → ℕ) → ((i : ℕ) → number (at i) ≡ 0) → number nowhere ≡ 255
    → First (no_slot d n ∷ []) (number (slot_named d n))
unfolding First slot_named
slot_first d n number some none =
    by_test (λ (f : Found). First (no_slot d n ∷ []) (number f)) (has_slot d n) _ _
    (λ e. inr (λ h. h (slot_there d n e), some _)) (λ e. inl (λ w. clash (there_slot d n w) e, none))

patch_first : (d : Desk) (s : List ℕ) (page dimmer : ℕ) → First (no_dimmer d page dimmer ∷ []) (patch_in d s page dimmer).number
unfolding First patch_in
patch_first d s page dimmer =
    by_test (λ (x : Reply). First (no_dimmer d page dimmer ∷ []) x.number) (has_dimmer d page dimmer) _ _
    (λ e. inr (λ h. h (dimmer_there d page dimmer e), refl)) (λ e. inl (λ w. clash (there_dimmer d page dimmer w) e, refl))

-- ---- the calls

pub memories_lines : (d : Desk) (s : List ℕ) (n : ℕ) (l : List ℕ) → MemoriesRefused d s n (memories_call d s n l).reply.number
unfolding apart other memories_call memories_by
memories_lines d s n l =
    told _ _ refl (store_first d s (no_kind n ∷ []) (λ a. (memories_by a d s n l).reply.number) (λ r. refl) (λ r. kind_first d s n l))

pub head_lines_lem : (d : Desk) (s : List ℕ) (n : ℕ) → SlotRefused d s n (head_call d s n).number
unfolding apart other head_call head_by head_in
head_lines_lem d s n =
    told _ _ refl
    (lent_first d s (no_slot d n ∷ []) (λ a. (head_by a d s n).number) (λ r. refl)
    (λ h. slot_first d n (λ f. (head_in d s f).number) (λ i. refl) refl))

pub levels_lines : (d : Desk) (s : List ℕ) (n : ℕ) → SlotRefused d s n (levels_call d s n).number
unfolding apart other levels_call levels_by placed_at
levels_lines d s n =
    told _ _ refl
    (lent_first d s (no_slot d n ∷ []) (λ a. (levels_by a d n).number) (λ r. refl)
    (λ h. slot_first d n (λ f. (placed_at d f).number) (λ i. refl) refl))

pub patch_lines_lem : (d : Desk) (s : List ℕ) (page dimmer : ℕ) → PatchRefused d s page dimmer (patch_call d s page dimmer).number
unfolding apart other patch_call patch_by
patch_lines_lem d s page dimmer =
    told _ _ refl
    (lent_first d s (no_dimmer d page dimmer ∷ []) (λ a. (patch_by a d s page dimmer).number) (λ r. refl) (λ h. patch_first d s page dimmer))

-- ---- number and place of an answer

kind_said : (d : Desk) (s : List ℕ) (n : ℕ) (l : List ℕ) → Said d s (kind_list d s n l).reply
unfolding kind_list list_of
kind_said d s n l =
    by_test (λ (x : ListCall). Said d s x.reply) (eqb n 0) _ _ (λ e. small_said d s 0 _ (omega arith))
    (λ e.
    by_test (λ (x : ListCall). Said d s x.reply) (eqb n 1) _ _ (λ f. small_said d s 0 _ (omega arith))
    (λ f.
    by_test (λ (x : ListCall). Said d s x.reply) (eqb n 2) _ _ (λ g. small_said d s 0 _ (omega arith)) (λ g. kept_said d s)))

memories_by_said : (a : Result Unit Refusal) (d : Desk) (s : List ℕ) (n : ℕ) (l : List ℕ) → Said d s (away_reply a) → Said d s (memories_by a d s n l).reply
unfolding memories_by
memories_by_said (Ok _) d s n l h = kind_said d s n l
memories_by_said (Err r) d s n l h = h

pub memories_said : (d : Desk) (s : List ℕ) (n : ℕ) (l : List ℕ) → Said d s (memories_call d s n l).reply
unfolding memories_call
memories_said d s n l = memories_by_said (admission_of d s) d s n l (store_said d s)

head_in_said : (d : Desk) (s : List ℕ) (f : Found) → Said d s (head_in d s f)
unfolding head_in
head_in_said d s (at i) = small_said d s 0 _ (omega arith)
head_in_said d s nowhere = kept_said d s

head_by_said : (a : Result Unit Refusal) (d : Desk) (s : List ℕ) (n : ℕ) → Said d s (away_reply a) → Said d s (head_by a d s n)
unfolding head_by
head_by_said (Ok _) d s n h = head_in_said d s (slot_named d n)
head_by_said (Err r) d s n h = h

pub head_said : (d : Desk) (s : List ℕ) (n : ℕ) → Said d s (head_call d s n)
unfolding head_call
head_said d s n = head_by_said (lent_admission d s) d s n (lent_said d s)

levels_by_said : (a : Result Unit Refusal) (d : Desk) (s : List ℕ) (n : ℕ) → Said d s (away_reply a) → Said d s (levels_by a d n)
unfolding levels_by
levels_by_said (Ok _) d s n h = placed_said d s (slot_named d n)
levels_by_said (Err r) d s n h = h

pub levels_said : (d : Desk) (s : List ℕ) (n : ℕ) → Said d s (levels_call d s n)
unfolding levels_call
levels_said d s n = levels_by_said (lent_admission d s) d s n (lent_said d s)

patch_in_said : (d : Desk) (s : List ℕ) (page dimmer : ℕ) → Said d s (patch_in d s page dimmer)
unfolding patch_in
patch_in_said d s page dimmer = by_test (Said d s) (has_dimmer d page dimmer) _ _ (λ e. small_said d s 0 _ (omega arith)) (λ e. kept_said d s)

patch_by_said : (a : Result Unit Refusal) (d : Desk) (s : List ℕ) (page dimmer : ℕ) → Said d s (away_reply a) → Said d s (patch_by a d s page dimmer)
unfolding patch_by
patch_by_said (Ok _) d s page dimmer h = patch_in_said d s page dimmer
patch_by_said (Err r) d s page dimmer h = h

pub patch_said : (d : Desk) (s : List ℕ) (page dimmer : ℕ) → Said d s (patch_call d s page dimmer)
unfolding patch_call
patch_said d s page dimmer = patch_by_said (lent_admission d s) d s page dimmer (lent_said d s)

-- ---- the promises

pub memories_refused : (d : Desk) (s : List ℕ) (n : ℕ) (l : List ℕ) (a : Result (Option ℕ) Refusal) {t : List ℕ} → MemoriesPromise d s n l a t
    → MemoriesRefused d s n (list_reply a).number
memories_refused d s n l a e =
    subst (MemoriesRefused d s n) (sym (ap (λ (y : ListCall). y.reply.number) e)) (memories_lines d s n l)

pub memories_place : (d : Desk) (s : List ℕ) (n : ℕ) (l : List ℕ) (a : Result (Option ℕ) Refusal) {t : List ℕ} → MemoriesPromise d s n l a t
    → PlaceTold d s (list_reply a).number (list_reply a).place
memories_place d s n l a e =
    subst (λ (y : Reply). PlaceTold d s y.number y.place) (sym (ap (λ (y : ListCall). y.reply) e)) (memories_said d s n l).place

pub head_refused : (d : Desk) (s : List ℕ) (n : ℕ) (a : Result (Option Head) Refusal) → HeadPromise d s n a → SlotRefused d s n (head_reply a).number
head_refused d s n a e = subst (SlotRefused d s n) (sym (ap (λ (y : Reply). y.number) e)) (head_lines_lem d s n)

pub levels_refused : (d : Desk) (s : List ℕ) (n : ℕ) (a : Result (Option ℕ) Refusal) → LevelsPromise d s n a → SlotRefused d s n (find_reply a).number
levels_refused d s n a e = subst (SlotRefused d s n) (sym (ap (λ (y : Reply). y.number) e)) (levels_lines d s n)

pub patch_refused : (d : Desk) (s : List ℕ) (page dimmer : ℕ) (a : Result (Option Patch) Refusal) → PatchPromise d s page dimmer a
    → PatchRefused d s page dimmer (patch_reply a).number
patch_refused d s page dimmer a e =
    subst (PatchRefused d s page dimmer) (sym (ap (λ (y : Reply). y.number) e)) (patch_lines_lem d s page dimmer)
