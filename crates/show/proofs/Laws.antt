-- The public calls' definitions case by case, in the form in which the code has its tests; by unfolding and the tests' values.
-- Assumes nothing.
use Rattle.std.specs.Prelude.{Err, None, Ok, Result, Some}
use mathlib.Core.Path.{◌≡◌, refl, sym, ap, ◌∙◌, subst}
use mathlib.Core.Bool.{Bool, true, false, not}
use mathlib.Core.List.{List, [], ◌∷◌}
use mathlib.Core.Logic.{◌⊎◌, inl, inr}
use Prim.Native.Nat.{ℕ, ◌+◌, ◌*◌, ◌≤◌, ◌<◌}
use native.Mathlib.Nat.{zero-add}
use native.Mathlib.Omega.{arith}
use lib.Dec.{eqb, ltb, leb}
use lib.ListN.{length}
use borrow.Author.Tests.{lt-ltb, le-ltb, le-leb, lt-leb, leb-true, leb-false, eq-eqb, ne_eqb, eqb-true, eqb-false, not-true, not-false}
use Rattle.cells.specs.Put.{put}
use Rattle.cells.specs.Search.{Found, at, nowhere, IsFirst}
use Rattle.cells.proofs.Split.{by_test, clash}
use Rattle.store_desk.specs.declared.Desk.{Desk}
use Rattle.store_desk.specs.declared.Key.{Key}
use Rattle.store_desk.specs.Size.{InRange, in_range_of, store_length, head_length, slot_length, slots_of, entries_of}
use Rattle.store_desk.specs.Name.{Name, ok_name}
use Rattle.store_desk.proofs.Size.{in_range, in_range_true, slots_le, entries_le}
use Rattle.store.specs.Slots.{find, place_of, levels_at}
use Rattle.store.specs.Change.{emptied as emptiedStore}
use Rattle.store.specs.Form.{slot_fits, repeats, entry_fits, bad_slot, repeated_slot, form_of, good_form}
use Rattle.store.specs.Good.{Ready}
use Rattle.store.proofs.Form.{by_form, form_is_good, good_sound, good_complete}
use Rattle.store.proofs.Start.{found_ok}
use Rattle.store_code.specs.Fits.{Fitting}
use Rattle.store_code.specs.Answer.{LevelsOf}
use Rattle.load.specs.declared.Totals.{Totals}
use Rattle.load.specs.Run.{Run, load_of}
use Rattle.load.specs.Translated.{translated_of}
use Rattle.load_run.specs.Loaded.{Loaded as Ran, loaded_of, run_loaded as ran}
use Rattle.text_room.specs.Wrote.{Wrote, wrote, wrote_at}
use Rattle.store_desk.specs.declared.Refusal.{Refusal}
use Rattle.store_desk.specs.Refusal.{Reply, replied, refused, most_places}
use Rattle.store_desk.specs.declared.Refusal.TheVariants.{R1, R2, R3, R4a, R4b, R4c, R5, R6, R7}
use Rattle.show.specs.Calls.{most_bytes, form_admission, lent_admission, then_admission, admission_of, totals_told, loaded_as, load_by, stream_call, load_call, kinds_admission, translate_admission, translate_call, written_as, put_call, write_by, write_call, emptied_as, empty_by, empty_call}
use Rattle.show.specs.Calls.{kept_word, not_kept_word, Look, look, cue_name, cue_key, look_at, look_by, look_call, LookedUp}
use Rattle.show.specs.Calls.{find_reply, placed_at, find_by, find_call}
use denote.Ref.{Bor}
use Rattle.store.specs.declared.FormError.{FormError}
use Rattle.store.specs.declared.FormError.TheVariants.{BadSlot, Repeated, BadEntry}

-- ---- R2, R3, R4a, R4b, R4c

pub ranged : (d : Desk) {b : Bool} → b ≡ in_range_of d → not b ≡ false → InRange d
ranged d {b} e t = in_range d (sym e ∙ not-false b t)

module _ (d : Desk) (s : List ℕ) where
  pub away_range : {b : Bool} → b ≡ in_range_of d → not b ≡ true → Err R2 ≡ lent_admission d s
  unfolding lent_admission
  away_range {b} e t = let f : in_range_of d ≡ false = sym e ∙ not-true b t in rw f

  pub away_short : {n : ℕ} → InRange d → n ≡ store_length d → length s < n → Err R3 ≡ lent_admission d s
  unfolding lent_admission
  away_short {n} h e l =
      let a : in_range_of d ≡ true = in_range_true d h in
      let f : leb (store_length d) (length s) ≡ false = lt-leb _ _ (subst (λ (k : ℕ). length s < k) e l) in
      rw (a, f)

  pub fitting : {n : ℕ} → InRange d → n ≡ store_length d → n ≤ length s → Fitting d s
  fitting {n} h e l = record { range = h; long = subst (λ (k : ℕ). k ≤ length s) e l }

  pub fits_lent : Fitting d s → (Ok tt) ≡ lent_admission d s
  unfolding lent_admission
  fits_lent h =
      let a : in_range_of d ≡ true = in_range_true d h.range in
      let f : leb (store_length d) (length s) ≡ true = le-leb _ _ h.long in
      rw (a, f)

  -- a call on a store of any form, by what turns it away
  pub by_lent : (P : Result Unit Refusal → Type 0)
      → ((InRange d → ⊥) → P (Err R2))
      → (InRange d → length s < store_length d → P (Err R3))
      → (Fitting d s → P (Ok tt))
      → P (lent_admission d s)
  unfolding lent_admission
  by_lent P range short good =
      by_test P (in_range_of d) _ _
      (λ e.
      let r : InRange d = in_range d e in
      by_test P (leb (store_length d) (length s)) _ _
      (λ f. good (record { range = r; long = leb-true _ _ f }))
      (λ f. short r (leb-false _ _ f)))
      (λ e. range (λ h. clash (in_range_true d h) e))

  -- such a call that is not turned away has a store that fits
  pub lent_fits : (Ok tt) ≡ lent_admission d s → Fitting d s
  lent_fits =
      by_lent (λ (a : Result Unit Refusal). (Ok tt) ≡ a → Fitting d s) (λ h e. away_clash e) (λ h l e. away_clash e) (λ h e. h)
    where
      away_clash : {r : Refusal} → ◌≡◌ {A = Result Unit Refusal} (Ok tt) (Err r) → Fitting d s
      away_clash q = absurd (let z : ◌≡◌ {A = ℕ} 0 1 = cc in omega arith)

  -- and where it is not, the store's form decides
  pub lent_away : {r : Refusal} → Err r ≡ lent_admission d s → Err r ≡ admission_of d s
  unfolding admission_of then_admission
  lent_away e = ap (λ (a : Result Unit Refusal). then_admission a (form_admission (form_of d s))) e

  pub lent_formed : {a : Result Unit Refusal} → (Ok tt) ≡ lent_admission d s → a ≡ form_admission (form_of d s) → a ≡ admission_of d s
  unfolding admission_of then_admission
  lent_formed e f = f ∙ ap (λ (a : Result Unit Refusal). then_admission a (form_admission (form_of d s))) e

  pub formed : {r : Result Unit FormError} (x : Result Unit FormError) → r ≡ form_of d s → r ≡ x → form_admission x ≡ form_admission (form_of d s)
  formed x e q = ap form_admission (sym q ∙ e)

  pub admitted : Ready d s → (Ok tt) ≡ admission_of d s
  unfolding form_admission
  admitted r =
      lent_formed (fits_lent (record { range = r.range; long = r.long })) (sym (ap form_admission (form_is_good d s r.form)))

  -- a call on a store, by what turns it away
  pub by_admission : (P : Result Unit Refusal → Type 0)
      → ((InRange d → ⊥) → P (Err R2))
      → (InRange d → length s < store_length d → P (Err R3))
      → (Fitting d s → (i : ℕ) → IsFirst (λ j. not (slot_fits d s j)) (slots_of d) 0 i → P (Err (R4a (i + 1))))
      → (Fitting d s → (i : ℕ) → bad_slot d s ≡ nowhere → IsFirst (repeats d s) (slots_of d) 0 i → P (Err (R4b (i + 1))))
      → (Fitting d s → (i : ℕ) → bad_slot d s ≡ nowhere → repeated_slot d s ≡ nowhere
      → IsFirst (λ j. not (entry_fits d s j)) (entries_of d) 0 i → P (Err (R4c (i + 1))))
      → (Ready d s → P (Ok tt))
      → P (admission_of d s)
  unfolding admission_of then_admission form_admission
  by_admission P range short slot twice entry good =
      by_lent (λ (a : Result Unit Refusal). P (then_admission a (form_admission (form_of d s)))) range short
      (λ h.
      by_form d s (λ (x : Result Unit FormError). P (form_admission x)) (slot h) (twice h) (entry h)
      (λ g. good (record { range = h.range; long = h.long; form = g })))

  -- a call that is not turned away has a store that fits, in good form
  pub let_in : (Ok tt) ≡ admission_of d s → Ready d s
  let_in =
      by_admission (λ (a : Result Unit Refusal). (Ok tt) ≡ a → Ready d s)
      (λ h e. away_clash e) (λ h l e. away_clash e) (λ h i f e. away_clash e) (λ h i n f e. away_clash e) (λ h i n m f e. away_clash e)
      (λ r e. r)
    where
      away_clash : {r : Refusal} → ◌≡◌ {A = Result Unit Refusal} (Ok tt) (Err r) → Ready d s
      away_clash q = absurd (let z : ◌≡◌ {A = ℕ} 0 1 = cc in omega arith)

  pub taken : (Ok tt) ≡ admission_of d s → Fitting d s × (good_form d s ≡ true)
  taken e = let r = let_in e in (record { range = r.range; long = r.long }, good_complete d s r.form)

-- the slot or entry that a form names is one of the desk's
abbrev pub form_place : Result Unit FormError → ℕ
form_place (Ok _) = 0
form_place (Err (BadSlot i)) = i
form_place (Err (Repeated i)) = i
form_place (Err (BadEntry i)) = i

pub form_inside : (d : Desk) (s : List ℕ) {r : Result Unit FormError} (x : Result Unit FormError) → Fitting d s → r ≡ form_of d s → r ≡ x → form_place x < most_places
form_inside d s x h e q =
    subst (λ (y : Result Unit FormError). form_place y < most_places) (sym e ∙ q)
    (by_form d s (λ (y : Result Unit FormError). form_place y < most_places)
    (λ i r. slot_most i r.below) (λ i n r. slot_most i r.below) (λ i n m r. entry_most i r.below) (λ g. omega arith))
  where
    slot_most : (i : ℕ) → i < 0 + slots_of d → i < most_places
    slot_most i l = let m = slots_le d h.range in omega arith

    entry_most : (i : ℕ) → i < 0 + entries_of d → i < most_places
    entry_most i l = let m = entries_le d h.range in omega arith

-- what is tested ahead of every call on a store is never R5 or R6, and tells nothing beside number and place
abbrev pub away_reply : Result Unit Refusal → Reply
away_reply (Ok _) = replied []
away_reply (Err r) = refused r

pub record StoreAway (x : Reply) : Type 0 where
  pub fifth : x.number ≡ 5 → ⊥
  pub sixth : x.number ≡ 6 → ⊥
  pub mute : x.told ≡ []

pub store_away : (d : Desk) (s : List ℕ) → StoreAway (away_reply (admission_of d s))
store_away d s =
    by_admission d s (λ (a : Result Unit Refusal). StoreAway (away_reply a))
    (λ h. record { fifth = λ q. omega arith; sixth = λ q. omega arith; mute = refl })
    (λ h l. record { fifth = λ q. omega arith; sixth = λ q. omega arith; mute = refl })
    (λ h i r. record { fifth = λ q. omega arith; sixth = λ q. omega arith; mute = refl })
    (λ h i n r. record { fifth = λ q. omega arith; sixth = λ q. omega arith; mute = refl })
    (λ h i n m r. record { fifth = λ q. omega arith; sixth = λ q. omega arith; mute = refl })
    (λ r. record { fifth = λ q. omega arith; sixth = λ q. omega arith; mute = refl })

pub lent_mute : (d : Desk) (s : List ℕ) → (away_reply (lent_admission d s)).told ≡ []
lent_mute d s = by_lent d s (λ (a : Result Unit Refusal). (away_reply a).told ≡ []) (λ h. refl) (λ h l. refl) (λ h. refl)

-- ---- load

-- of either load: what turns it away, and the run that it comes to
module _ (a : Result Unit Refusal) (x : Run) (s reps stream : List ℕ) where
  pub stream_long : most_bytes < length stream → loaded_as (refused R1) s reps ≡ stream_call a x s reps stream
  unfolding stream_call
  stream_long h = let f : ltb most_bytes (length stream) ≡ true = lt-ltb _ _ h in rw f

  pub stream_by : (b : Result Unit Refusal) → b ≡ a → length stream ≤ most_bytes → load_by b x s reps ≡ stream_call a x s reps stream
  unfolding stream_call
  stream_by b e h =
      let f : ltb most_bytes (length stream) ≡ false = le-ltb _ _ h in
      rw f (ap (λ (c : Result Unit Refusal). load_by c x s reps) e)

  pub stream_done : {r : Totals} {t q : List ℕ} → (Ok tt) ≡ a → length stream ≤ most_bytes → ran r t q ≡ loaded_of x reps
      → loaded_as (replied (totals_told r)) t q ≡ stream_call a x s reps stream
  unfolding load_by loaded_of
  stream_done e h g = ap (λ (l : Ran). loaded_as (replied (totals_told l.totals)) l.store l.reports) g ∙ stream_by (Ok tt) e h

module _ (d : Desk) (s reps stream : List ℕ) where
  pub load_long : most_bytes < length stream → loaded_as (refused R1) s reps ≡ load_call d s reps stream
  unfolding load_call
  load_long h = stream_long (admission_of d s) (load_of d s stream) s reps stream h

  pub load_by_lem : (a : Result Unit Refusal) → a ≡ admission_of d s → length stream ≤ most_bytes → load_by a (load_of d s stream) s reps ≡ load_call d s reps stream
  unfolding load_call
  load_by_lem a e h = stream_by (admission_of d s) (load_of d s stream) s reps stream a e h

  pub load_done_lem : {r : Totals} {t q : List ℕ} → (Ok tt) ≡ admission_of d s → length stream ≤ most_bytes
      → ran r t q ≡ loaded_of (load_of d s stream) reps → loaded_as (replied (totals_told r)) t q ≡ load_call d s reps stream
  unfolding load_call
  load_done_lem e h g = stream_done (admission_of d s) (load_of d s stream) s reps stream e h g

  pub translate_long : most_bytes < length stream → loaded_as (refused R1) s reps ≡ translate_call d s reps stream
  unfolding translate_call
  translate_long h = stream_long (translate_admission d s) (translated_of d s stream) s reps stream h

  pub translate_by : (a : Result Unit Refusal) → a ≡ translate_admission d s → length stream ≤ most_bytes
      → load_by a (translated_of d s stream) s reps ≡ translate_call d s reps stream
  unfolding translate_call
  translate_by a e h = stream_by (translate_admission d s) (translated_of d s stream) s reps stream a e h

  pub translate_done : {r : Totals} {t q : List ℕ} → (Ok tt) ≡ translate_admission d s → length stream ≤ most_bytes
      → ran r t q ≡ loaded_of (translated_of d s stream) reps → loaded_as (replied (totals_told r)) t q ≡ translate_call d s reps stream
  unfolding translate_call
  translate_done e h g = stream_done (translate_admission d s) (translated_of d s stream) s reps stream e h g

-- ---- what turns a load with translation away
pub by_kinds : (d : Desk) (P : Result Unit Refusal → Type 0) → ((d.groups ≡ 0) ⊎ (d.subs ≡ 0) → P (Err R7))
    → ((d.groups ≡ 0 → ⊥) → (d.subs ≡ 0 → ⊥) → P (Ok tt)) → P (kinds_admission d)
unfolding kinds_admission
by_kinds d P seven good =
    by_test P (eqb d.groups 0) _ _ (λ e. seven (inl (eqb-true d.groups 0 e)))
    (λ e.
    by_test P (eqb d.subs 0) _ _ (λ f. seven (inr (eqb-true d.subs 0 f)))
    (λ f. good (eqb-false d.groups 0 e) (eqb-false d.subs 0 f)))

module _ (d : Desk) (s : List ℕ) where
  pub seven_away : {r : Refusal} → Err r ≡ admission_of d s → Err r ≡ translate_admission d s
  unfolding translate_admission then_admission
  seven_away e = ap (λ (a : Result Unit Refusal). then_admission a (kinds_admission d)) e

  seven_kinds : {a : Result Unit Refusal} → (Ok tt) ≡ admission_of d s → a ≡ kinds_admission d → a ≡ translate_admission d s
  unfolding translate_admission then_admission
  seven_kinds e f = f ∙ ap (λ (a : Result Unit Refusal). then_admission a (kinds_admission d)) e

  pub seven_groups : (Ok tt) ≡ admission_of d s → d.groups ≡ 0 → Err R7 ≡ translate_admission d s
  unfolding kinds_admission
  seven_groups e z = seven_kinds e (rw (eq-eqb d.groups 0 z))

  pub seven_subs : (Ok tt) ≡ admission_of d s → (d.groups ≡ 0 → ⊥) → d.subs ≡ 0 → Err R7 ≡ translate_admission d s
  unfolding kinds_admission
  seven_subs e n z = seven_kinds e (rw (ne_eqb d.groups 0 n, eq-eqb d.subs 0 z))

  pub seven_none : (Ok tt) ≡ admission_of d s → (d.groups ≡ 0 → ⊥) → (d.subs ≡ 0 → ⊥) → (Ok tt) ≡ translate_admission d s
  unfolding kinds_admission
  seven_none e n m = seven_kinds e (rw (ne_eqb d.groups 0 n, ne_eqb d.subs 0 m))

  -- by what turns it away: as any call on a store, and then R7
  pub by_translate : (P : Result Unit Refusal → Type 0)
      → ((r : Refusal) → Err r ≡ admission_of d s → P (Err r))
      → (Ready d s → (d.groups ≡ 0) ⊎ (d.subs ≡ 0) → P (Err R7))
      → (Ready d s → (d.groups ≡ 0 → ⊥) → (d.subs ≡ 0 → ⊥) → P (Ok tt))
      → P (translate_admission d s)
  unfolding translate_admission then_admission
  by_translate P away seven good = first (admission_of d s) refl
    where
      first : (a : Result Unit Refusal) → a ≡ admission_of d s → P (then_admission a (kinds_admission d))
      first (Ok _) e = by_kinds d P (seven (let_in d s e)) (good (let_in d s e))
      first (Err r) e = away r e

  -- it tells nothing beside number and place
  pub translate_mute : (away_reply (translate_admission d s)).told ≡ []
  translate_mute =
      by_translate (λ (a : Result Unit Refusal). (away_reply a).told ≡ [])
      (λ r e. ap (λ (a : Result Unit Refusal). (away_reply a).told) e ∙ (store_away d s).mute) (λ r h. refl) (λ r n m. refl)

  pub translate_taken : (Ok tt) ≡ translate_admission d s → Fitting d s
  translate_taken =
      by_translate (λ (a : Result Unit Refusal). (Ok tt) ≡ a → Fitting d s) (λ r h e. away_clash e) (λ r h e. away_clash e)
      (λ r n m e. record { range = r.range; long = r.long })
    where
      away_clash : {r : Refusal} → ◌≡◌ {A = Result Unit Refusal} (Ok tt) (Err r) → Fitting d s
      away_clash q = absurd (let z : ◌≡◌ {A = ℕ} 0 1 = cc in omega arith)

-- ---- write

module _ (stream out : List ℕ) where
  pub put_long : {n : ℕ} → n ≡ length stream → most_bytes < n → written_as (refused R5) out ≡ put_call stream out
  unfolding put_call
  put_long {n} e h =
      let f : ltb most_bytes (length stream) ≡ true = lt-ltb _ _ (subst (λ (k : ℕ). most_bytes < k) e h) in
      rw f

  pub put_short : {n : ℕ} → n ≡ length stream → n ≤ most_bytes → length out < n → written_as (refused (R6 n)) out ≡ put_call stream out
  unfolding put_call
  put_short {n} e h g =
      let f : ltb most_bytes (length stream) ≡ false = le-ltb _ _ (subst (λ (k : ℕ). k ≤ most_bytes) e h) in
      let k : ltb (length out) (length stream) ≡ true = lt-ltb _ _ (subst (λ (k : ℕ). length out < k) e g) in
      rw (f, k) (ap (λ (k : ℕ). written_as (refused (R6 k)) out) e)

  pub put_done : {n r : ℕ} {o : List ℕ} → n ≡ length stream → n ≤ most_bytes → n ≤ length out
      → wrote r o ≡ wrote_at out 0 stream → written_as (replied (r ∷ [])) o ≡ put_call stream out
  unfolding put_call wrote_at
  put_done {n} {r} {o} e h g w =
      let f : ltb most_bytes (length stream) ≡ false = le-ltb _ _ (subst (λ (k : ℕ). k ≤ most_bytes) e h) in
      let k : ltb (length out) (length stream) ≡ false = le-ltb _ _ (subst (λ (k : ℕ). k ≤ length out) e g) in
      rw (f, k)
      (ap (λ (x : Wrote). written_as (replied (x.next ∷ [])) x.out) w
      ∙ ap (λ (k : ℕ). written_as (replied (k ∷ [])) (put out 0 stream)) (zero-add (length stream)))

pub write_by_lem : (d : Desk) (s out : List ℕ) (a : Result Unit Refusal) → a ≡ admission_of d s → write_by a d s out ≡ write_call d s out
unfolding write_call
write_by_lem d s out a e = ap (λ (b : Result Unit Refusal). write_by b d s out) e

-- ---- empty

pub empty_by_lem : (d : Desk) (s : List ℕ) (a : Result Unit Refusal) → a ≡ lent_admission d s → empty_by a d s ≡ empty_call d s
unfolding empty_call
empty_by_lem d s a e = ap (λ (b : Result Unit Refusal). empty_by b d s) e

pub empty_done : (d : Desk) (s : List ℕ) {t : List ℕ} → Fitting d s → t ≡ emptiedStore d s → emptied_as (replied []) t ≡ empty_call d s
unfolding empty_by
empty_done d s h e = ap (λ (x : List ℕ). emptied_as (replied []) x) e ∙ empty_by_lem d s (Ok tt) (fits_lent d s h)

-- ---- look-up

-- what can't be named is not kept
pub unnamed : (d : Desk) (s : List ℕ) (n : Name) {b : Bool} → good_form d s ≡ true → b ≡ ok_name d n → b ≡ false → None ≡ place_of (find d s n)
unfolding place_of
unnamed d s n {b} g e f = sym (ap place_of (none (find d s n) refl))
  where
    none : (a : Found) → find d s n ≡ a → a ≡ nowhere
    none (at i) q = clash (found_ok d s (good_sound d s g) n i q) (sym e ∙ f)
    none nowhere q = refl

pub look_by_lem : (d : Desk) (s : List ℕ) (page whole tenths : ℕ) (a : Result Unit Refusal) → a ≡ admission_of d s
    → look_by a d s (cue_key page whole tenths) ≡ look_call d s page whole tenths
unfolding look_call
look_by_lem d s page whole tenths a e = ap (λ (b : Result Unit Refusal). look_by b d s (cue_key page whole tenths)) e

pub find_by_lem : (d : Desk) (s : List ℕ) (page whole tenths : ℕ) (a : Result Unit Refusal) → a ≡ admission_of d s
    → find_by a d s (cue_key page whole tenths) ≡ find_call d s page whole tenths
unfolding find_call
find_by_lem d s page whole tenths a e = ap (λ (b : Result Unit Refusal). find_by b d s (cue_key page whole tenths)) e

pub placed_at_lem : (d : Desk) {f : Found} {i n : ℕ} → f ≡ at i → n ≡ i * slot_length d + head_length → find_reply (Ok (Some n)) ≡ placed_at d f
unfolding placed_at
placed_at_lem d {f} {i} {n} e h = ap (λ (k : ℕ). find_reply (Ok (Some k))) h ∙ sym (ap (placed_at d) e)

pub placed_none : (d : Desk) {f : Found} → f ≡ nowhere → find_reply (Ok None) ≡ placed_at d f
unfolding placed_at
placed_none d e = sym (ap (placed_at d) e)

look_kept : (d : Desk) (s : List ℕ) (key : Key) (i : ℕ) → find d s (cue_name key) ≡ at i
    → look kept_word (i * slot_length d + head_length) (levels_at d s i) ≡ look_at d s (find d s (cue_name key))
unfolding look_at
look_kept d s key i e = sym (ap (λ (a : Found). look_at d s a) e)

pub looked_at : {s r : Bor (List ℕ)} (d : Desk) (key : Key) (i : ℕ) → find d s.now (cue_name key) ≡ at i → LevelsOf d s i r
    → LookedUp s r kept_word (look_at d s.now (find d s.now (cue_name key)))
looked_at {s} d key i e l =
    let q = look_kept d s.now key i e in
    record {
      says = ap (λ (y : Look). y.word) q;
      bytes = l.bytes ∙ ap (λ (y : Look). y.bytes) q;
      block = l.block;
      offset = l.offset ∙ ap (λ (y : Look). s.ref_ptr.1 + y.place) q;
    }

pub look_none : (d : Desk) (s : List ℕ) (key : Key) → find d s (cue_name key) ≡ nowhere → look not_kept_word 0 [] ≡ look_at d s (find d s (cue_name key))
unfolding look_at
look_none d s key e = sym (ap (λ (a : Found). look_at d s a) e)

-- an empty part at the store's start
pub looked : {s r : Bor (List ℕ)} {w : ℕ} {x : Look} (word : ℕ) → look word 0 [] ≡ x → w ≡ word → r.now ≡ [] → r.ref_ptr.0 ≡ s.ref_ptr.0
    → r.ref_ptr.1 ≡ s.ref_ptr.1 + 0 → LookedUp s r w x
looked {s} {r} {w} {x} word e v b p q =
    record {
      says = v ∙ ap (λ (y : Look). y.word) e;
      bytes = b ∙ ap (λ (y : Look). y.bytes) e;
      block = p;
      offset = q ∙ ap (λ (y : Look). s.ref_ptr.1 + y.place) e;
    }

pub looked_as : {s r : Bor (List ℕ)} {w : ℕ} {x y : Look} → x ≡ y → LookedUp s r w x → LookedUp s r w y
looked_as {s} {r} {w} e l = subst (λ (z : Look). LookedUp s r w z) e l
