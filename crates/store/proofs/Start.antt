-- Starting a memory: its view, good form, and room. By the laws of a slot put at its rightful place.
-- Assumes nothing.
use mathlib.Core.Path.{◌≡◌, refl, sym, ap, ◌∙◌, subst}
use mathlib.Core.Bool.{true, false, cond, not}
use mathlib.Core.List.{List}
use Prim.Native.Nat.{ℕ, zero, ◌<◌, ◌≤◌}
use native.Mathlib.Omega.{arith}
use lib.ListN.{length, drop, replicate, length-append, length-replicate}
use lib.Seq.{drop_at}
use borrow.Author.Tests.{eq-eqb, not-false}
use Rattle.cells.specs.Search.{Found, at, nowhere, IsFirst}
use Rattle.cells.proofs.Search.{at_inj, at-nowhere, first-at, first_is, first_nowhere, none_is}
use Rattle.cells.proofs.Split.{clash, not_of_true}
use Rattle.store_desk.specs.declared.Desk.{Desk}
use Rattle.store_desk.specs.declared.Key.{Key}
use Rattle.store_desk.specs.declared.Kind.{Kind}
use Rattle.store_desk.specs.declared.Kind.TheVariants.{Cue, Group, Sub}
use Rattle.store_desk.specs.Size.{head_length, slot_length, levels_length, slots_of, store_length, InRange}
use Rattle.store_desk.specs.Name.{Name, first_slot, slot_count, slots_end, kind_at, eq_name, ok_name, KeyFits, sub_slot}
use Rattle.store_desk.proofs.Name.{kind_of, kind_end, ok_fits, sub_parts, sub_inside}
use Rattle.store_head.specs.Layout.{encode_head, decode_head}
use Rattle.store_head.specs.Fits.{HeadFits}
use Rattle.store_head.proofs.Laws.{decode_encode, length_encode}
use Rattle.store.specs.Slots.{slot_at, put_slot, entry_at, head_at, key_of, is_used, holds_at, find, on_found}
use Rattle.store.specs.View.{Memory, absent, kept, memory_at, memory_of}
use Rattle.store.specs.Change.{lowest_unused, new_seat, seat, blank_head, blank_slot, started}
use Rattle.store.specs.Form.{link_fits, values_fit, place_fits, name_at}
use Rattle.store.specs.Memories.{memory_in, blank_memory}
use Rattle.store.specs.Good.{GoodForm, Ready}
use Rattle.store.proofs.Places.{slot_same, slot_other, put_length, slot_patch, slot_tail}
use Rattle.store.proofs.Find.{holds_same, holds_own, holds_true, placed_slot, put_view}
use Rattle.store.proofs.Form.{used_name, used_place, placed_seat, put_good}

-- ---- a fresh slot
pub blank_length : (d : Desk) (key : Key) → length (blank_slot d key) ≡ slot_length d
unfolding blank_slot slot_length
blank_length d key =
    let a = length-append (encode_head (blank_head key)) (replicate (levels_length d) 0) in
    let b = length_encode (blank_head key) in
    let c = length-replicate (levels_length d) (zero) in
    omega arith

pub blank_fits : (key : Key) → KeyFits key → HeadFits (blank_head key)
unfolding blank_head
blank_fits key f = omega arith

pub blank_head_lem : (d : Desk) (key : Key) → KeyFits key → decode_head (blank_slot d key) ≡ blank_head key
unfolding blank_slot
blank_head_lem d key f = decode_encode (blank_head key) (blank_fits key f) (replicate (levels_length d) 0)

pub blank_memory_lem : (d : Desk) (key : Key) → KeyFits key → memory_in (blank_slot d key) ≡ blank_memory d key
unfolding memory_in blank_memory
blank_memory_lem d key f =
    let h : decode_head (blank_slot d key) ≡ blank_head key = blank_head_lem d key f in
    let l : drop head_length (blank_slot d key) ≡ replicate (levels_length d) 0 =
    unfold blank_slot in (drop_at (encode_head (blank_head key)) (replicate (levels_length d) 0) head_length (length_encode (blank_head key)))
    in
    λ i. record { head = h i; levels = l i }

blank_values : (k : Kind) (key : Key) → values_fit k (blank_head key) ≡ true
unfolding values_fit link_fits blank_head
blank_values k key = refl

-- ---- the place agrees
module _ (d : Desk) (s : List ℕ) (g : GoodForm d s) (n : Name) where
  pub place_found : (i : ℕ) → find d s n ≡ at i → place_fits d n.kind i n.key ≡ true
  unfolding find
  place_found i e =
      let r : IsFirst (holds_at d s n.key) (slot_count d n.kind) (first_slot d n.kind) i = first-at _ _ _ i e in
      let own = holds_own d s n.key i r.passes in
      let b = kind_end d n.kind in
      let l = r.below in
      let k : kind_at d i ≡ n.kind = kind_of d n.kind i r.from l in
      subst (λ (z : Key). place_fits d n.kind i z ≡ true) own.1
      (subst (λ (z : Kind). place_fits d z i (key_of (head_at d s i)) ≡ true) k (used_place d s g i (omega arith) own.0))

  place_new : (k : Kind) (i : ℕ) → new_seat d s k n.key ≡ at i → place_fits d k i n.key ≡ true
  unfolding new_seat place_fits
  place_new Cue i e = refl
  place_new Group i e = refl
  place_new Sub i e = eq-eqb i (sub_slot d n.key) (sym (at_inj e))

  pub place_seat : (i : ℕ) → seat d s n ≡ at i → place_fits d n.kind i n.key ≡ true
  unfolding seat on_found
  place_seat i e = cases (find d s n) refl e
    where
      cases : (a : Found) → find d s n ≡ a → on_found a (λ j. at j) (new_seat d s n.kind n.key) ≡ at i → place_fits d n.kind i n.key ≡ true
      cases (at j) f q = place_found i (f ∙ q)
      cases nowhere f q = place_new n.kind i q

-- ---- started
pub started-at : (d : Desk) (s : List ℕ) (n : Name) (i : ℕ) → seat d s n ≡ at i → started d s n ≡ put_slot d s i (blank_slot d n.key)
unfolding started on_found
started-at d s n i e = ap (λ (a : Found). on_found a (λ j. put_slot d s j (blank_slot d n.key)) s) e

pub started_full : (d : Desk) (s : List ℕ) (n : Name) → seat d s n ≡ nowhere → started d s n ≡ s
unfolding started on_found
started_full d s n e = ap (λ (a : Found). on_found a (λ j. put_slot d s j (blank_slot d n.key)) s) e

module _ (d : Desk) (s : List ℕ) (r : Ready d s) (n : Name) (o : ok_name d n ≡ true) where
  fits : KeyFits n.key
  fits = ok_fits d n r.range o

  head_there : decode_head (blank_slot d n.key) ≡ blank_head n.key
  head_there = blank_head_lem d n.key fits

  pub blank_used : is_used (decode_head (blank_slot d n.key)) ≡ true
  blank_used = ap is_used head_there ∙ (unfold blank_head in refl)

  blank_key : key_of (decode_head (blank_slot d n.key)) ≡ n.key
  blank_key = ap key_of head_there ∙ (unfold blank_head in refl)

  pub start_view : (i : ℕ) → seat d s n ≡ at i → (m : Name) → memory_of d (started d s n) m ≡ cond (eq_name m n) (kept (blank_memory d n.key)) (memory_of d s m)
  start_view i e m =
      ap (λ (t : List ℕ). memory_of d t m) (started-at d s n i e)
      ∙ put_view d s r.long n i (placed_seat d s r.form n o i e) (blank_slot d n.key) (blank_length d n.key) blank_used blank_key m
      ∙ ap (λ (z : Memory). cond (eq_name m n) (kept z) (memory_of d s m)) (blank_memory_lem d n.key fits)

  pub start_good : Ready d (started d s n)
  start_good = cases (seat d s n) refl
    where
      cases : (a : Found) → seat d s n ≡ a → Ready d (started d s n)
      cases nowhere e = subst (Ready d) (sym (started_full d s n e)) r
      cases (at i) e =
          subst (Ready d) (sym (started-at d s n i e))
          (put_good d s r n i (placed_seat d s r.form n o i e) (blank_slot d n.key) (blank_length d n.key) blank_used blank_key o
          (place_seat d s r.form n i e)
          (ap (values_fit n.kind) head_there ∙ blank_values n.kind n.key))

  -- the patch and the bytes past the needed length stay
  pub start_patch : (j : ℕ) → entry_at d (started d s n) j ≡ entry_at d s j
  start_patch j = cases (seat d s n) refl
    where
      cases : (a : Found) → seat d s n ≡ a → entry_at d (started d s n) j ≡ entry_at d s j
      cases nowhere e = ap (λ (t : List ℕ). entry_at d t j) (started_full d s n e)
      cases (at i) e =
          ap (λ (t : List ℕ). entry_at d t j) (started-at d s n i e)
          ∙ slot_patch d s r.long i (placed_slot d s n i (placed_seat d s r.form n o i e)) (blank_slot d n.key) (blank_length d n.key) j

  pub start_tail : drop (store_length d) (started d s n) ≡ drop (store_length d) s
  start_tail = cases (seat d s n) refl
    where
      cases : (a : Found) → seat d s n ≡ a → drop (store_length d) (started d s n) ≡ drop (store_length d) s
      cases nowhere e = ap (drop (store_length d)) (started_full d s n e)
      cases (at i) e =
          ap (drop (store_length d)) (started-at d s n i e)
          ∙ slot_tail d s r.long i (placed_slot d s n i (placed_seat d s r.form n o i e)) (blank_slot d n.key) (blank_length d n.key)

-- ---- in a store of any form: the seat is among the slots of the kind, and a memory that is started is found there
new_inside : (d : Desk) (s : List ℕ) (n : Name) → ok_name d n ≡ true → (k : Kind) → n.kind ≡ k → (j : ℕ) → new_seat d s k n.key ≡ at j
    → (first_slot d k ≤ j) × (j < slots_end d k)
unfolding new_seat lowest_unused
new_inside d s n o Cue q j e =
    let y = first-at (λ z. not (is_used (head_at d s z))) (slot_count d Cue) (first_slot d Cue) j e in (y.from, y.below)
new_inside d s n o Group q j e =
    let y = first-at (λ z. not (is_used (head_at d s z))) (slot_count d Group) (first_slot d Group) j e in (y.from, y.below)
new_inside d s n o Sub q j e =
    let c = sub_parts d n.key (subst (λ (z : Kind). ok_name d (record { kind = z; key = n.key }) ≡ true) q o) in
    subst (λ (z : ℕ). (first_slot d Sub ≤ z) × (z < slots_end d Sub)) (at_inj e) (sub_inside d n.key c.0 c.1)

pub seat_inside : (d : Desk) (s : List ℕ) (n : Name) → ok_name d n ≡ true → (i : ℕ) → seat d s n ≡ at i
    → (first_slot d n.kind ≤ i) × (i < slots_end d n.kind)
unfolding seat on_found find
seat_inside d s n o i e = cases (find d s n) refl e
  where
    cases : (a : Found) → find d s n ≡ a → on_found a (λ j. at j) (new_seat d s n.kind n.key) ≡ at i
        → (first_slot d n.kind ≤ i) × (i < slots_end d n.kind)
    cases (at j) f q =
        let y = first-at (holds_at d s n.key) (slot_count d n.kind) (first_slot d n.kind) i (f ∙ q) in (y.from, y.below)
    cases nowhere f q = new_inside d s n o n.kind refl i q

pub start_length : (d : Desk) (s : List ℕ) → store_length d ≤ length s → (n : Name) → ok_name d n ≡ true → length (started d s n) ≡ length s
start_length d s long n o = cases (seat d s n) refl
  where
    cases : (a : Found) → seat d s n ≡ a → length (started d s n) ≡ length s
    cases nowhere e = ap length (started_full d s n e)
    cases (at i) e =
        let w = seat_inside d s n o i e in
        let end = kind_end d n.kind in
        ap length (started-at d s n i e) ∙ put_length d s long i (let l = w.1 in omega arith) (blank_slot d n.key) (blank_length d n.key)

pub start_own : (d : Desk) (s : List ℕ) → store_length d ≤ length s → (n : Name) → InRange d → ok_name d n ≡ true
    → (i : ℕ) → seat d s n ≡ at i → find d (started d s n) n ≡ at i
unfolding seat on_found new_seat lowest_unused find head_at blank_head
start_own d s long n r o i e = cases (find d s n) refl e
  where
    fits : KeyFits n.key
    fits = ok_fits d n r o

    used : is_used (decode_head (blank_slot d n.key)) ≡ true
    used = ap is_used (blank_head_lem d n.key fits) ∙ (refl)

    key : key_of (decode_head (blank_slot d n.key)) ≡ n.key
    key = ap key_of (blank_head_lem d n.key fits) ∙ (refl)

    put_own : (j : ℕ) → first_slot d n.kind ≤ j → j < slots_end d n.kind
        → ((k : ℕ) → first_slot d n.kind ≤ k → k < j → holds_at d s n.key k ≡ false) → seat d s n ≡ at j → find d (started d s n) n ≡ at j
    put_own j a b f q =
        let x = blank_slot d n.key in
        let l = blank_length d n.key in
        let end = kind_end d n.kind in
        let hj : j < slots_of d = omega arith in
        let there : slot_at d (put_slot d s j x) j ≡ x = slot_same d s long j hj x l in
        ap (λ (t : List ℕ). find d t n) (started-at d s n j q)
        ∙ ((first_is (holds_at d (put_slot d s j x) n.key) (slot_count d n.kind) (first_slot d n.kind) j
        (record {
          from = a;
          below = b;
          passes =
              (holds_true d (put_slot d s j x) n.key j
              (ap (λ (z : List ℕ). is_used (decode_head z)) there ∙ used)
              (ap (λ (z : List ℕ). key_of (decode_head z)) there ∙ key));
          before =
              λ k c g.
              let ne : j ≡ k → ⊥ = λ z. omega arith in
              holds_same d (put_slot d s j x) s n.key k (slot_other d s long j hj x l k ne) ∙ f k c g;
        })))

    cases : (a : Found) → find d s n ≡ a → on_found a (λ j. at j) (new_seat d s n.kind n.key) ≡ at i → find d (started d s n) n ≡ at i
    cases (at j) f q =
        let y = (first-at (holds_at d s n.key) (slot_count d n.kind) (first_slot d n.kind) i (f ∙ q)) in
        put_own i y.from y.below y.before e
    cases nowhere f q =
        let w = new_inside d s n o n.kind refl i q in
        put_own i w.0 w.1
        (λ k c g.
        let l = w.1 in
        (first_nowhere (holds_at d s n.key) (slot_count d n.kind) (first_slot d n.kind) f k c (omega arith)))
        e

-- ---- what is kept has a name in range
pub found_used : (d : Desk) (s : List ℕ) (n : Name) (i : ℕ) → find d s n ≡ at i → (i < slots_of d) × (is_used (head_at d s i) ≡ true) × (name_at d s i ≡ n)
unfolding find
found_used d s n i e =
    let r : IsFirst (holds_at d s n.key) (slot_count d n.kind) (first_slot d n.kind) i = first-at _ _ _ i e in
    let own = holds_own d s n.key i r.passes in
    let b = kind_end d n.kind in
    let l = r.below in
    let k : kind_at d i ≡ n.kind = kind_of d n.kind i r.from l in
    (omega arith, own.0, λ j. record { kind = k j; key = own.1 j })

pub found_ok : (d : Desk) (s : List ℕ) → GoodForm d s → (n : Name) (i : ℕ) → find d s n ≡ at i → ok_name d n ≡ true
found_ok d s g n i e =
    let u = found_used d s n i e in
    subst (λ (m : Name). ok_name d m ≡ true) u.2 (used_name d s g i u.0 u.1)

kept_at : (d : Desk) (s : List ℕ) (n : Name) (m : Memory) → memory_of d s n ≡ kept m → (i : ℕ) × (find d s n ≡ at i)
unfolding memory_of on_found
kept_at d s n m e = cases (find d s n) refl e
  where
    cases : (a : Found) → find d s n ≡ a → on_found a (λ j. kept (memory_at d s j)) absent ≡ kept m → (i : ℕ) × (find d s n ≡ at i)
    cases (at i) f q = (i, f)
    cases nowhere f q = absurd (let z : ◌≡◌ {A = ℕ} 0 1 = cc in omega arith)

pub kept_ok : (d : Desk) (s : List ℕ) → GoodForm d s → (n : Name) (m : Memory) → memory_of d s n ≡ kept m → ok_name d n ≡ true
kept_ok d s g n m e = let f = kept_at d s n m e in found_ok d s g n f.0 f.1

-- the view, by where a name is found
pub kept_memory : (d : Desk) (s : List ℕ) (n : Name) (i : ℕ) → find d s n ≡ at i → memory_of d s n ≡ kept (memory_at d s i)
unfolding memory_of on_found
kept_memory d s n i e = ap (λ (a : Found). on_found a (λ j. kept (memory_at d s j)) absent) e

pub absent_at : (d : Desk) (s : List ℕ) (n : Name) → find d s n ≡ nowhere → memory_of d s n ≡ absent
unfolding memory_of on_found
absent_at d s n e = ap (λ (a : Found). on_found a (λ j. kept (memory_at d s j)) absent) e

pub bad_absent : (d : Desk) (s : List ℕ) → GoodForm d s → (n : Name) → ok_name d n ≡ false → memory_of d s n ≡ absent
bad_absent d s g n f = cases (find d s n) refl
  where
    cases : (a : Found) → find d s n ≡ a → memory_of d s n ≡ absent
    cases (at i) e = clash (found_ok d s g n i e) f
    cases nowhere e = absent_at d s n e

-- ---- room: there is no place exactly where a new cue or group finds every slot used
pub kept_room : (d : Desk) (s : List ℕ) (n : Name) (i : ℕ) → find d s n ≡ at i → seat d s n ≡ at i
unfolding seat on_found
kept_room d s n i e = ap (λ (a : Found). on_found a (λ j. at j) (new_seat d s n.kind n.key)) e

pub sub_room : (d : Desk) (s : List ℕ) (n : Name) → n.kind ≡ Sub → seat d s n ≡ nowhere → ⊥
unfolding seat on_found new_seat
sub_room d s n q e = cases (find d s n) refl n.kind q e
  where
    cases : (a : Found) → find d s n ≡ a → (k : Kind) → k ≡ Sub → on_found a (λ j. at j) (new_seat d s k n.key) ≡ nowhere → ⊥
    cases (at j) f k q e = at-nowhere e
    cases nowhere f k q e = at-nowhere (subst (λ (z : Kind). new_seat d s z n.key ≡ nowhere) q e)

seat_new : (d : Desk) (s : List ℕ) (n : Name) → find d s n ≡ nowhere → seat d s n ≡ new_seat d s n.kind n.key
unfolding seat on_found
seat_new d s n e = ap (λ (a : Found). on_found a (λ j. at j) (new_seat d s n.kind n.key)) e

all_used : (d : Desk) (s : List ℕ) (k : Kind) (key : Key) → new_seat d s k key ≡ nowhere
    → (i : ℕ) → first_slot d k ≤ i → i < slots_end d k → is_used (head_at d s i) ≡ true
unfolding new_seat lowest_unused
all_used d s Cue key e i h l = not-false _ (first_nowhere _ _ _ e i h l)
all_used d s Group key e i h l = not-false _ (first_nowhere _ _ _ e i h l)
all_used d s Sub key e i h l = absurd (at-nowhere e)

pub full : (d : Desk) (s : List ℕ) (n : Name) → seat d s n ≡ nowhere
    → (memory_of d s n ≡ absent) × ((i : ℕ) → first_slot d n.kind ≤ i → i < slots_end d n.kind → is_used (head_at d s i) ≡ true)
full d s n e = cases (find d s n) refl
  where
    cases : (a : Found) → find d s n ≡ a
        → (memory_of d s n ≡ absent) × ((i : ℕ) → first_slot d n.kind ≤ i → i < slots_end d n.kind → is_used (head_at d s i) ≡ true)
    cases (at j) f = absurd (at-nowhere (sym (kept_room d s n j f) ∙ e))
    cases nowhere f = (absent_at d s n f, all_used d s n.kind n.key (sym (seat_new d s n f) ∙ e))

-- and the other way round
find_absent : (d : Desk) (s : List ℕ) (n : Name) → memory_of d s n ≡ absent → find d s n ≡ nowhere
unfolding memory_of on_found
find_absent d s n e = cases (find d s n) refl e
  where
    cases : (a : Found) → find d s n ≡ a → on_found a (λ j. kept (memory_at d s j)) absent ≡ absent → find d s n ≡ nowhere
    cases (at i) f q = absurd (let z : ◌≡◌ {A = ℕ} 0 1 = cc in omega arith)
    cases nowhere f q = f

none_unused : (d : Desk) (s : List ℕ) (k : Kind) (key : Key) → (k ≡ Sub → ⊥)
    → ((i : ℕ) → first_slot d k ≤ i → i < slots_end d k → is_used (head_at d s i) ≡ true) → new_seat d s k key ≡ nowhere
unfolding new_seat lowest_unused
none_unused d s Cue key ne f =
    none_is (λ i. not (is_used (head_at d s i))) (slot_count d Cue) (first_slot d Cue) (λ i h l. not_of_true (is_used (head_at d s i)) (f i h l))
none_unused d s Group key ne f =
    none_is (λ i. not (is_used (head_at d s i))) (slot_count d Group) (first_slot d Group) (λ i h l. not_of_true (is_used (head_at d s i)) (f i h l))
none_unused d s Sub key ne f = absurd (ne refl)

pub full_is : (d : Desk) (s : List ℕ) (n : Name) → (n.kind ≡ Sub → ⊥) → memory_of d s n ≡ absent
    → ((i : ℕ) → first_slot d n.kind ≤ i → i < slots_end d n.kind → is_used (head_at d s i) ≡ true) → seat d s n ≡ nowhere
full_is d s n ne a f = seat_new d s n (find_absent d s n a) ∙ none_unused d s n.kind n.key ne f
