-- Good form: the test is the facts, what they say of a used slot and of an unused one, the rightful place of a name, and that putting a
-- slot in form there keeps good form. By the laws of searches and of the view.
-- Assumes nothing.
use Rattle.std.specs.Prelude.{Err, Ok, Result}
use mathlib.Core.Path.{◌≡◌, refl, sym, ap, ◌∙◌, subst}
use mathlib.Core.Bool.{true, false, cond, not, ◌&&◌}
use mathlib.Core.List.{List, [], ◌∷◌}
use Prim.Native.Nat.{ℕ, zero, suc, ◌<◌, ◌≤◌}
use native.Mathlib.Omega.{arith}
use lib.Dec.{eqb}
use lib.ListN.{length, replicate}
use borrow.Author.Tests.{eqb-true, not-true, not-false}
use Rattle.cells.specs.Search.{Found, at, nowhere, all_from, IsFirst}
use Rattle.cells.proofs.Search.{at_inj, first-at, first_is, first_nowhere, none_is, all_at, all_is}
use Rattle.cells.proofs.Split.{by_bool, by_eq, cond-true, cond-false, clash, and_true, and_left, and_right, not_of_true, not_of_false}
use Rattle.store_desk.specs.declared.Desk.{Desk}
use Rattle.store_desk.specs.declared.Key.{Key}
use Rattle.store_desk.specs.declared.Kind.{Kind}
use Rattle.store_desk.specs.declared.Kind.TheVariants.{Cue, Group, Sub}
use Rattle.store_desk.specs.Size.{slot_length, slots_of, entries_of, store_length}
use Rattle.store_desk.specs.Name.{Name, first_slot, slot_count, slots_end, kind_at, eq_name, ok_name, sub_slot}
use Rattle.store_desk.proofs.Name.{eq_key-true, eq_name_lem, eq_name-true, eq_name_refl, kind_of, kind_at_lem, kind_end, sub_parts, sub_inside, sub_same}
use Rattle.store_head.specs.declared.Head.{Head}
use Rattle.store_head.specs.Layout.{decode_head, decode_patch}
use Rattle.store.specs.Slots.{slot_at, put_slot, head_at, key_of, is_used, holds_at, find, on_found}
use Rattle.store.specs.Change.{lowest_unused, new_seat, seat}
use Rattle.store.specs.Form.{shares, bad_slot, repeats, repeated_slot, bad_entry, form_by, form_of, is_good, good_form, is_zero, values_fit, place_fits, name_at, slot_fits, patch_fits, entry_fits}
use Rattle.store.specs.Good.{GoodForm, Ready}
use Rattle.store.proofs.Places.{slot_length_lem, put_length, slot_same, slot_other, slot_patch}
use Rattle.store.proofs.Find.{head_same, holds_own, holds_true, holds_unused, holds_one, Placed, placed_slot, put_find}
use Rattle.store.specs.declared.FormError.{FormError}
use Rattle.store.specs.declared.FormError.TheVariants.{BadSlot, Repeated, BadEntry}

-- ---- what a search that finds no place says
module _ (d : Desk) (s : List ℕ) where
  pub slots_fit : bad_slot d s ≡ nowhere → (i : ℕ) → i < slots_of d → slot_fits d s i ≡ true
  unfolding bad_slot
  slots_fit e i h = not-false (slot_fits d s i) (first_nowhere (λ j. not (slot_fits d s j)) (slots_of d) 0 e i (omega arith) (omega arith))

  pub slots_apart : repeated_slot d s ≡ nowhere → (i j : ℕ) → j < i → i < slots_of d → shares d s i j ≡ false
  unfolding repeated_slot repeats
  slots_apart e i j l h =
      not-true (shares d s i j)
      (all_at (λ k. not (shares d s i k)) i 0
      (not-false (all_from (λ k. not (shares d s i k)) i 0) (first_nowhere (repeats d s) (slots_of d) 0 e i (omega arith) (omega arith)))
      j (omega arith) (omega arith))

  entries_fit : bad_entry d s ≡ nowhere → (i : ℕ) → i < entries_of d → entry_fits d s i ≡ true
  unfolding bad_entry
  entries_fit e i h = not-false (entry_fits d s i) (first_nowhere (λ j. not (entry_fits d s j)) (entries_of d) 0 e i (omega arith) (omega arith))

-- ---- the form of a store, by what is out of form first
module _ (d : Desk) (s : List ℕ) where
  pub by_form : (P : Result Unit FormError → Type 0)
      → ((i : ℕ) → IsFirst (λ j. not (slot_fits d s j)) (slots_of d) 0 i → P (Err (BadSlot i)))
      → ((i : ℕ) → bad_slot d s ≡ nowhere → IsFirst (repeats d s) (slots_of d) 0 i → P (Err (Repeated i)))
      → ((i : ℕ) → bad_slot d s ≡ nowhere → repeated_slot d s ≡ nowhere → IsFirst (λ j. not (entry_fits d s j)) (entries_of d) 0 i → P (Err (BadEntry i)))
      → (GoodForm d s → P (Ok tt))
      → P (form_of d s)
  unfolding form_of form_by bad_slot repeated_slot bad_entry
  by_form P bad twice entry good = cases (bad_slot d s) (repeated_slot d s) (bad_entry d s) refl refl refl
    where
      cases : (x y z : Found) → bad_slot d s ≡ x → repeated_slot d s ≡ y → bad_entry d s ≡ z → P (form_by x y z)
      cases (at i) y z e f g = bad i (first-at _ _ _ i e)
      cases nowhere (at i) z e f g = twice i e (first-at _ _ _ i f)
      cases nowhere nowhere (at i) e f g = entry i e f (first-at _ _ _ i g)
      cases nowhere nowhere nowhere e f g = good (record { slots = slots_fit d s e; single = slots_apart d s f; entries = entries_fit d s g })

-- ---- the test is the facts
module _ (d : Desk) (s : List ℕ) where
  pub good_sound : good_form d s ≡ true → GoodForm d s
  unfolding good_form is_good
  good_sound =
      by_form d s (λ (x : Result Unit FormError). is_good x ≡ true → GoodForm d s)
      (λ i r e. clash e refl) (λ i a r e. clash e refl) (λ i a b r e. clash e refl) (λ g e. g)

  pub form_is_good : GoodForm d s → form_of d s ≡ Ok tt
  unfolding form_of form_by bad_slot repeated_slot bad_entry repeats
  form_is_good g =
      let a : bad_slot d s ≡ nowhere =
      none_is (λ i. not (slot_fits d s i)) (slots_of d) 0 (λ i h l. not_of_true (slot_fits d s i) (g.slots i (omega arith)))
      in
      let b : repeated_slot d s ≡ nowhere =
      none_is (repeats d s) (slots_of d) 0
      (λ i h l.
      not_of_true (all_from (λ j. not (shares d s i j)) i 0)
      (all_is (λ j. not (shares d s i j)) i 0 (λ j x y. not_of_false (shares d s i j) (g.single i j (omega arith) (omega (arith, l))))))
      in
      let c : bad_entry d s ≡ nowhere =
      none_is (λ i. not (entry_fits d s i)) (entries_of d) 0 (λ i h l. not_of_true (entry_fits d s i) (g.entries i (omega arith)))
      in
      λ i. form_by (a i) (b i) (c i)

  pub good_complete : GoodForm d s → good_form d s ≡ true
  unfolding good_form is_good
  good_complete g = ap is_good (form_is_good g)

-- slots that share a name are used, under that name
pub shares_parts : (d : Desk) (s : List ℕ) (i j : ℕ) → shares d s i j ≡ true
    → (is_used (head_at d s i) ≡ true) × (is_used (head_at d s j) ≡ true) × (name_at d s i ≡ name_at d s j)
unfolding shares
shares_parts d s i j e =
    let a = is_used (head_at d s i) in
    let b = is_used (head_at d s j) in
    let c = eq_name (name_at d s i) (name_at d s j) in
    let ab : (a && b) ≡ true = and_left (a && b) c e in
    (and_left a b ab, and_right a b ab, eq_name_lem (name_at d s i) (name_at d s j) (and_right (a && b) c e))

-- where each used slot is the one found under its name, no two share one
pub single_of : (d : Desk) (s : List ℕ) → ((i : ℕ) → i < slots_of d → is_used (head_at d s i) ≡ true → find d s (name_at d s i) ≡ at i)
    → (i j : ℕ) → j < i → i < slots_of d → shares d s i j ≡ false
single_of d s f i j l h =
    by_bool (shares d s i j)
    (λ e.
    let p = shares_parts d s i j e in
    let a : find d s (name_at d s i) ≡ at i = f i h p.0 in
    let b : find d s (name_at d s j) ≡ at j = f j (omega arith) p.1 in
    let q : at i ≡ at j = sym a ∙ ap (find d s) p.2 ∙ b in
    let z : i ≡ j = at_inj q in
    absurd (omega arith))
    (λ e. e)

-- ---- a list of zeros
pub zero_is : (x : List ℕ) → is_zero x ≡ true → x ≡ replicate (length x) 0
unfolding is_zero
zero_is [] e = refl
zero_is (b ∷ bs) e =
    by_bool (eqb b 0)
    (λ t. zero_cons b bs (eqb-true b 0 t) (zero_is bs (sym (cond-true (eqb b 0) (is_zero bs) false t) ∙ e)))
    (λ f. clash e (cond-false (eqb b 0) (is_zero bs) false f))
  where
    zero_cons : (b : ℕ) (bs : List ℕ) → b ≡ 0 → bs ≡ replicate (length bs) 0 → b ∷ bs ≡ 0 ∷ replicate (length bs) 0
    zero_cons b bs p q = λ i. p i ∷ q i

pub is_zero_lem : (n : ℕ) → is_zero (replicate n 0) ≡ true
unfolding is_zero
is_zero_lem zero = refl
is_zero_lem (suc n) = is_zero_lem n

-- ---- what depends on a slot's bytes alone
pub fits_same : (d : Desk) (s t : List ℕ) (i : ℕ) → slot_at d s i ≡ slot_at d t i → slot_fits d s i ≡ slot_fits d t i
unfolding slot_fits head_at
fits_same d s t i e =
    ap
    (λ (x : List ℕ).
    cond (is_used (decode_head x))
    (ok_name d (record { kind = kind_at d i; key = key_of (decode_head x) })
    && place_fits d (kind_at d i) i (key_of (decode_head x))
    && values_fit (kind_at d i) (decode_head x))
    (is_zero x))
    e

pub name_same : (d : Desk) (s t : List ℕ) (i : ℕ) → slot_at d s i ≡ slot_at d t i → name_at d s i ≡ name_at d t i
name_same d s t i e = ap (λ (h : Head). record { kind = kind_at d i; key = key_of h }) (head_same d s t i e)

-- ---- a slot of a store in good form
module _ (d : Desk) (s : List ℕ) (g : GoodForm d s) (i : ℕ) (h : i < slots_of d) where
  used_all : is_used (head_at d s i) ≡ true
      → (ok_name d (name_at d s i) && place_fits d (kind_at d i) i (key_of (head_at d s i)) && values_fit (kind_at d i) (head_at d s i)) ≡ true
  unfolding slot_fits
  used_all u = sym (cond-true (is_used (head_at d s i)) _ (is_zero (slot_at d s i)) u) ∙ g.slots i h

  -- a used slot: its name, place and values are in range, and it is the one that is found under its name
  pub used_name : is_used (head_at d s i) ≡ true → ok_name d (name_at d s i) ≡ true
  used_name u =
      let a = ok_name d (name_at d s i) in
      let b = place_fits d (kind_at d i) i (key_of (head_at d s i)) in
      and_left a b (and_left (a && b) (values_fit (kind_at d i) (head_at d s i)) (used_all u))

  pub used_place : is_used (head_at d s i) ≡ true → place_fits d (kind_at d i) i (key_of (head_at d s i)) ≡ true
  used_place u =
      let a = ok_name d (name_at d s i) in
      let b = place_fits d (kind_at d i) i (key_of (head_at d s i)) in
      and_right a b (and_left (a && b) (values_fit (kind_at d i) (head_at d s i)) (used_all u))

  pub used_values : is_used (head_at d s i) ≡ true → values_fit (kind_at d i) (head_at d s i) ≡ true
  used_values u =
      let a = ok_name d (name_at d s i) in
      let b = place_fits d (kind_at d i) i (key_of (head_at d s i)) in
      and_right (a && b) (values_fit (kind_at d i) (head_at d s i)) (used_all u)

  pub found_self : is_used (head_at d s i) ≡ true → find d s (name_at d s i) ≡ at i
  unfolding find shares
  found_self u =
      let k = kind_at_lem d i h in
      first_is (holds_at d s (key_of (head_at d s i))) (slot_count d (kind_at d i)) (first_slot d (kind_at d i)) i
      (record {
        from = k.0;
        below = k.1;
        passes = holds_true d s (key_of (head_at d s i)) i u refl;
        before =
            λ j a l.
            by_bool (holds_at d s (key_of (head_at d s i)) j)
            (λ t.
            let o = holds_own d s (key_of (head_at d s i)) j t in
            let same : kind_at d j ≡ kind_at d i = kind_of d (kind_at d i) j a (omega (arith, k.1)) in
            let n : name_at d s i ≡ name_at d s j = λ z. record { kind = sym same z; key = sym o.1 z } in
            clash
            (and_true (is_used (head_at d s i) && is_used (head_at d s j)) (eq_name (name_at d s i) (name_at d s j))
            (and_true (is_used (head_at d s i)) (is_used (head_at d s j)) u o.0) (eq_name-true (name_at d s i) (name_at d s j) n))
            (g.single i j l h))
            (λ t. t);
      })

  -- an unused slot is all zero
  pub unused_zero : store_length d ≤ length s → is_used (head_at d s i) ≡ false → slot_at d s i ≡ replicate (slot_length d) 0
  unfolding slot_fits
  unused_zero long u =
      zero_is (slot_at d s i) (sym (cond-false (is_used (head_at d s i)) _ (is_zero (slot_at d s i)) u) ∙ g.slots i h)
      ∙ ap (λ (n : ℕ). replicate n 0) (slot_length_lem d s long i h)

-- ---- the rightful place of a name
module _ (d : Desk) (s : List ℕ) (g : GoodForm d s) (n : Name) where
  own_name : (j : ℕ) → first_slot d n.kind ≤ j → j < slots_end d n.kind → holds_at d s n.key j ≡ true → name_at d s j ≡ n
  own_name j h l t =
      let k : kind_at d j ≡ n.kind = kind_of d n.kind j h l in
      let y : key_of (head_at d s j) ≡ n.key = (holds_own d s n.key j t).1 in
      λ i. record { kind = k i; key = y i }

  -- it is found at each slot that holds it
  pub found_holds : (j : ℕ) → first_slot d n.kind ≤ j → j < slots_end d n.kind → holds_at d s n.key j ≡ true → find d s n ≡ at j
  found_holds j h l t =
      let b = kind_end d n.kind in
      subst (λ (m : Name). find d s m ≡ at j) (own_name j h l t) (found_self d s g j (omega arith) (holds_own d s n.key j t).0)

  pub placed_found : (i : ℕ) → find d s n ≡ at i → Placed d s n i
  unfolding find
  placed_found i e =
      let r : IsFirst (holds_at d s n.key) (slot_count d n.kind) (first_slot d n.kind) i = first-at _ _ _ i e in
      record {
        from = r.from;
        below = r.below;
        only =
            λ j h l ne.
            by_bool (holds_at d s n.key j) (λ t. absurd (ne (at_inj (sym e ∙ found_holds j h l t)))) (λ f. f);
        free = λ key f. holds_one d s n.key key i r.passes f;
      }

  -- where the name is not kept: an unused slot of its kind
  unused_placed : (k : Kind) → n.kind ≡ k → find d s n ≡ nowhere → (i : ℕ) → lowest_unused d s k ≡ at i → Placed d s n i
  unfolding find lowest_unused
  unused_placed k q f i e =
      let r : IsFirst (λ j. not (is_used (head_at d s j))) (slot_count d k) (first_slot d k) i = first-at _ _ _ i e in
      record {
        from = subst (λ (z : Kind). first_slot d z ≤ i) (sym q) r.from;
        below = subst (λ (z : Kind). i < slots_end d z) (sym q) r.below;
        only = λ j h l ne. first_nowhere (holds_at d s n.key) (slot_count d n.kind) (first_slot d n.kind) f j h l;
        free = λ key t. holds_unused d s key i (not-true (is_used (head_at d s i)) r.passes);
      }

  -- a submaster's own place
  sub_placed : n.kind ≡ Sub → ok_name d n ≡ true → find d s n ≡ nowhere → Placed d s n (sub_slot d n.key)
  unfolding find place_fits
  sub_placed q o f =
      let i = sub_slot d n.key in
      let oʹ : ok_name d (record { kind = Sub; key = n.key }) ≡ true = subst (λ (k : Kind). ok_name d (record { kind = k; key = n.key }) ≡ true) q o in
      let c = sub_parts d n.key oʹ in
      let w = sub_inside d n.key c.0 c.1 in
      let b = kind_end d Sub in
      let hi : i < slots_of d = let x = w.1 in omega arith in
      let ki : kind_at d i ≡ Sub = kind_of d Sub i w.0 w.1 in
      record {
        from = subst (λ (z : Kind). first_slot d z ≤ i) (sym q) w.0;
        below = subst (λ (z : Kind). i < slots_end d z) (sym q) w.1;
        only = λ j h l ne. first_nowhere (holds_at d s n.key) (slot_count d n.kind) (first_slot d n.kind) f j h l;
        free =
            λ key t.
            by_bool (holds_at d s key i)
            (λ y.
            let own = holds_own d s key i y in
            let p : place_fits d Sub i key ≡ true =
            subst (λ (z : Key). place_fits d Sub i z ≡ true) own.1
            (subst (λ (z : Kind). place_fits d z i (key_of (head_at d s i)) ≡ true) ki (used_place d s g i hi own.0))
            in
            let m : ok_name d (record { kind = Sub; key = key }) ≡ true =
            subst (λ (z : Key). ok_name d (record { kind = Sub; key = z }) ≡ true) own.1
            (subst (λ (z : Kind). ok_name d (record { kind = z; key = key_of (head_at d s i) }) ≡ true) ki (used_name d s g i hi own.0))
            in
            let e : sub_slot d key ≡ sub_slot d n.key = sym (eqb-true i (sub_slot d key) p) in
            clash (eq_key-true key n.key (sub_same d key n.key m oʹ e)) t)
            (λ y. y);
      }

  new_placed : (k : Kind) → n.kind ≡ k → ok_name d n ≡ true → find d s n ≡ nowhere → (i : ℕ) → new_seat d s k n.key ≡ at i → Placed d s n i
  unfolding new_seat
  new_placed Cue q o f i e = unused_placed Cue q f i e
  new_placed Group q o f i e = unused_placed Group q f i e
  new_placed Sub q o f i e = subst (Placed d s n) (at_inj e) (sub_placed q o f)

  pub placed_seat : ok_name d n ≡ true → (i : ℕ) → seat d s n ≡ at i → Placed d s n i
  unfolding seat on_found
  placed_seat o i e = cases (find d s n) refl e
    where
      cases : (a : Found) → find d s n ≡ a → on_found a (λ j. at j) (new_seat d s n.kind n.key) ≡ at i → Placed d s n i
      cases (at j) f q = placed_found i (f ∙ q)
      cases nowhere f q = new_placed n.kind refl o f i q

-- ---- a slot in form, put at its rightful place
pub put_good : (d : Desk) (s : List ℕ) → Ready d s → (n : Name) (i : ℕ) → Placed d s n i
    → (x : List ℕ) → length x ≡ slot_length d → is_used (decode_head x) ≡ true → key_of (decode_head x) ≡ n.key
    → ok_name d n ≡ true → place_fits d n.kind i n.key ≡ true → values_fit n.kind (decode_head x) ≡ true
    → Ready d (put_slot d s i x)
put_good d s r n i p x e u k o w v =
    let long = r.long in
    let g = r.form in
    let hi = placed_slot d s n i p in
    record {
      range = r.range;
      long = subst (λ (z : ℕ). store_length d ≤ z) (sym (put_length d s long i hi x e)) long;
      form =
          record {
            slots = λ j h. by_eq i j (λ q. subst (λ (z : ℕ). slot_fits d t z ≡ true) q slot_fits_lem) (λ ne. fits_same d t s j (other j ne) ∙ g.slots j h);
            single = single_of d t (λ j h y. by_eq i j (λ q. subst (λ (z : ℕ). find d t (name_at d t z) ≡ at z) q own) (λ ne. rest j h ne y));
            entries = λ j h. entry_fits_lem j ∙ g.entries j h;
          };
    }
  where
    t : List ℕ
    t = put_slot d s i x

    there : slot_at d t i ≡ x
    there = slot_same d s r.long i (placed_slot d s n i p) x e

    other : (j : ℕ) → (i ≡ j → ⊥) → slot_at d t j ≡ slot_at d s j
    other j ne = slot_other d s r.long i (placed_slot d s n i p) x e j ne

    ki : kind_at d i ≡ n.kind
    ki = kind_of d n.kind i p.from p.below

    slot_fits_lem : slot_fits d t i ≡ true
    slot_fits_lem =
        unfold slot_fits head_at in
        (subst (λ (z : List ℕ).
        cond (is_used (decode_head z))
        (ok_name d (record { kind = kind_at d i; key = key_of (decode_head z) })
        && place_fits d (kind_at d i) i (key_of (decode_head z))
        && values_fit (kind_at d i) (decode_head z))
        (is_zero z)
        ≡ true)
        (sym there)
        (cond-true (is_used (decode_head x)) _ (is_zero x) u
        ∙ subst (λ (z : Kind). (ok_name d (record { kind = z; key = key_of (decode_head x) }) && place_fits d z i (key_of (decode_head x)) && values_fit z (decode_head x)) ≡ true)
        (sym ki)
        (and_true _ _
        (and_true _ _
        (subst (λ (z : Key). ok_name d (record { kind = n.kind; key = z }) ≡ true) (sym k) o)
        (subst (λ (z : Key). place_fits d n.kind i z ≡ true) (sym k) w))
        v)))

    name_there : name_at d t i ≡ n
    name_there =
        let y : key_of (head_at d t i) ≡ n.key = unfold head_at in (ap (λ (z : List ℕ). key_of (decode_head z)) there ∙ k) in
        λ j. record { kind = ki j; key = y j }

    own : find d t (name_at d t i) ≡ at i
    own = ap (λ (m : Name). find d t m) name_there ∙ put_find d s r.long n i p x e u k n ∙ cond-true (eq_name n n) (at i) (find d s n) (eq_name_refl n)

    rest : (j : ℕ) → j < slots_of d → (i ≡ j → ⊥) → is_used (head_at d t j) ≡ true → find d t (name_at d t j) ≡ at j
    rest j h ne y =
        let us : is_used (head_at d s j) ≡ true = ap is_used (sym (head_same d t s j (other j ne))) ∙ y in
        let m : Name = name_at d s j in
        let w = kind_at_lem d j h in
        let f : eq_name m n ≡ false =
        by_bool (eq_name m n)
        (λ q.
        let mn : m ≡ n = eq_name_lem m n q in
        let kj : kind_at d j ≡ n.kind = ap (λ (z : Name). z.kind) mn in
        clash
        (holds_true d s n.key j us (ap (λ (z : Name). z.key) mn))
        (p.only j (subst (λ (z : Kind). first_slot d z ≤ j) kj w.0) (subst (λ (z : Kind). j < slots_end d z) kj w.1) ne))
        (λ q. q)
        in
        ap (λ (z : Name). find d t z) (name_same d t s j (other j ne))
        ∙ put_find d s r.long n i p x e u k m
        ∙ cond-false (eq_name m n) (at i) (find d s m) f
        ∙ found_self d s r.form j h us

    entry_fits_lem : (j : ℕ) → entry_fits d t j ≡ entry_fits d s j
    entry_fits_lem j = unfold entry_fits in (ap (λ (z : List ℕ). patch_fits d (decode_patch z)) (slot_patch d s r.long i (placed_slot d s n i p) x e j))
