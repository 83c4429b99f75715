-- What the tests of a slot, of a patch entry and of a store compute: bytes joined are zero where each is, tests joined one by one are the
-- definition's, and the first search that finds a place tells the form. By cases on tests.
-- Assumes nothing.
use Rattle.std.specs.Prelude.{Err, Ok}
use Rattle.std.specs.List.{fold}
use mathlib.Core.Path.{◌≡◌, refl, sym, ap, ◌∙◌}
use mathlib.Core.Bool.{Bool, true, false, cond, not, ◌&&◌}
use mathlib.Core.List.{List, [], ◌∷◌}
use Prim.Native.Nat.{ℕ, ◌+◌, ◌-◌, ◌≤◌}
use native.Mathlib.Omega.{arith}
use lib.Bits.{bit_or, bit_and, or_add_and, and_le_l, and_le_r, or_zero_l}
use lib.Dec.{eqb, leb}
use borrow.Author.Tests.{eqb-true, eq-eqb, ne_eqb}
use Rattle.cells.proofs.Split.{cond-true, cond-false, same_test, and_true, and_left, and_right, and_false_left}
use Rattle.cells.specs.Search.{Found, at, nowhere, first_from}
use Rattle.store_desk.specs.declared.Desk.{Desk}
use Rattle.store_desk.specs.declared.Kind.{Kind}
use Rattle.store_desk.specs.Size.{slots_of, entries_of}
use Rattle.store_desk.specs.Name.{kind_at, ok_name}
use Rattle.store_head.specs.declared.Head.{Head}
use Rattle.store_head.specs.declared.Patch.{Patch}
use Rattle.store_head.specs.Layout.{decode_head, decode_patch}
use Rattle.store.specs.Slots.{slot_at, entry_at, head_at, key_of}
use Rattle.store.specs.Form.{has_times, has_link, time_fits, link_fits, is_zero, place_fits, values_fit, used_fits, slot_fits, patch_fits, entry_fits, bad_slot, repeated_slot, bad_entry, form_by, form_of}
use Rattle.store.specs.declared.FormError.TheVariants.{BadSlot, Repeated, BadEntry}

-- ---- bytes joined
or_zero : (a b : ℕ) → bit_or a b ≡ 0 → (a ≡ 0) × (b ≡ 0)
or_zero a b e =
    let s : bit_or a b + bit_and a b ≡ a + b = or_add_and a b in
    let l : bit_and a b ≤ a = and_le_l a b in
    let r : bit_and a b ≤ b = and_le_r a b in
    omega arith

or_is_zero : (a b : ℕ) → eqb (bit_or a b) 0 ≡ (eqb a 0 && eqb b 0)
or_is_zero a b =
    same_test (eqb (bit_or a b) 0) (eqb a 0 && eqb b 0)
    (λ t.
    let z = or_zero a b (eqb-true (bit_or a b) 0 t) in
    and_true (eqb a 0) (eqb b 0) (eq-eqb a 0 z.0) (eq-eqb b 0 z.1))
    (λ t.
    let p : a ≡ 0 = eqb-true a 0 (and_left (eqb a 0) (eqb b 0) t) in
    let q : b ≡ 0 = eqb-true b 0 (and_right (eqb a 0) (eqb b 0) t) in
    eq-eqb (bit_or a b) 0 (ap (λ (z : ℕ). bit_or z b) p ∙ or_zero_l b ∙ q))

and_assoc : (a b c : Bool) → ((a && b) && c) ≡ (a && cond b c false)
and_assoc true true c = refl
and_assoc true false c = refl
and_assoc false b c = refl

and_one : (b : Bool) → (b && true) ≡ b
and_one true = refl
and_one false = refl

-- joined to a from the first on
pub fold_zero : (a : ℕ) (s : List ℕ) → eqb (fold bit_or a s) 0 ≡ (eqb a 0 && is_zero s)
unfolding is_zero
fold_zero a [] = sym (and_one (eqb a 0))
fold_zero a (b ∷ s) = fold_zero (bit_or a b) s ∙ ap (λ (z : Bool). z && is_zero s) (or_is_zero a b) ∙ and_assoc (eqb a 0) (eqb b 0) (is_zero s)

-- ---- tests joined
pub and_join : {r a x y : Bool} → a ≡ x → a ≡ true → r ≡ y → r ≡ (x && y)
and_join {r} {a} {x} {y} e t g = g ∙ ap (λ (z : Bool). z && y) (sym t ∙ e)

pub and_stop : {a x : Bool} (y : Bool) → a ≡ x → a ≡ false → false ≡ (x && y)
and_stop {a} {x} y e t = sym (and_false_left x y (sym e ∙ t))

pub used_joins : (d : Desk) (i : ℕ) (h : Head) (k : Kind) {r a b : Bool} → r ≡ (a && b) → k ≡ kind_at d i
    → a ≡ (ok_name d (record { kind = k; key = key_of h }) && place_fits d k i (key_of h)) → b ≡ values_fit k h → r ≡ used_fits d i h
used_joins d i h k {r} {a} {b} e q f g =
    e ∙ ap (λ (x : Bool). x && b) f
    ∙ ap (λ (x : Bool). (ok_name d (record { kind = k; key = key_of h }) && place_fits d k i (key_of h)) && x) g
    ∙ ap (λ (j : Kind). (ok_name d (record { kind = j; key = key_of h }) && place_fits d j i (key_of h)) && values_fit j h) q

pub used_fits_lem : (d : Desk) (s : List ℕ) (i : ℕ) {x : List ℕ} {h : Head} {r : Bool}
    → x ≡ slot_at d s i → h ≡ decode_head x → h.used ≡ 1 → r ≡ used_fits d i h → r ≡ slot_fits d s i
unfolding slot_fits head_at
used_fits_lem d s i {x} {h} {r} e g u f =
    let q : h ≡ decode_head (slot_at d s i) = g ∙ ap decode_head e in
    let v : (decode_head (slot_at d s i)).used ≡ 1 = ap (λ (y : Head). y.used) (sym q) ∙ u in
    f ∙ ap (λ (y : Head). used_fits d i y) q ∙ sym (cond-true _ _ _ (eq-eqb _ _ v))

pub unused_fits : (d : Desk) (s : List ℕ) (i : ℕ) {x : List ℕ} {h : Head} {r : Bool}
    → x ≡ slot_at d s i → h ≡ decode_head x → (h.used ≡ 1 → ⊥) → r ≡ is_zero x → r ≡ slot_fits d s i
unfolding slot_fits head_at
unused_fits d s i {x} {h} {r} e g u f =
    let q : h ≡ decode_head (slot_at d s i) = g ∙ ap decode_head e in
    f ∙ ap is_zero e ∙ sym (cond-false _ _ _ (ne_eqb _ _ (λ v. u (ap (λ (y : Head). y.used) q ∙ v))))

pub entry_fits_lem : (d : Desk) (s : List ℕ) (i : ℕ) {x : List ℕ} {p : Patch} {r : Bool}
    → x ≡ entry_at d s i → p ≡ decode_patch x → r ≡ patch_fits d p → r ≡ entry_fits d s i
unfolding entry_fits
entry_fits_lem d s i e g f = f ∙ ap (patch_fits d) (g ∙ ap decode_patch e)

pub values_join : (k : Kind) (h : Head) {can link r b₁ b₂ b₃ b₄ b₅ t₁ t₂ t₃ t₄ t₅ t₆ : Bool}
    → can ≡ has_times k → link ≡ has_link k
    → t₁ ≡ time_fits can h.up h.up_fade → t₂ ≡ time_fits can h.up h.up_delay
    → t₃ ≡ time_fits can h.down h.down_fade → t₄ ≡ time_fits can h.down h.down_delay
    → t₅ ≡ time_fits link h.followon h.followon_time → t₆ ≡ link_fits link h
    → b₁ ≡ (t₁ && t₂) → b₂ ≡ (b₁ && t₃) → b₃ ≡ (b₂ && t₄) → b₄ ≡ (b₃ && t₅) → b₅ ≡ (b₄ && t₆) → r ≡ (b₅ && eqb h.rest 0)
    → r ≡ values_fit k h
unfolding values_fit
values_join k h e f g₁ g₂ g₃ g₄ g₅ g₆ h₁ h₂ h₃ h₄ h₅ h₆ = cc

pub patch_none : (d : Desk) (p : Patch) {r : Bool} → p.channel ≡ 0 → r ≡ (eqb p.rest 0 && eqb p.level 0) → r ≡ patch_fits d p
unfolding patch_fits
patch_none d p e f = f ∙ ap (λ (x : Bool). eqb p.rest 0 && x) (sym (cond-true _ _ _ (eq-eqb p.channel 0 e)))

pub patch_some : (d : Desk) (p : Patch) {r : Bool} → (p.channel ≡ 0 → ⊥) → r ≡ (eqb p.rest 0 && leb p.channel d.channels) → r ≡ patch_fits d p
unfolding patch_fits
patch_some d p e f = f ∙ ap (λ (x : Bool). eqb p.rest 0 && x) (sym (cond-false _ _ _ (ne_eqb p.channel 0 e)))

-- where a search begins
pub sub_none : (p : ℕ → Bool) (n : ℕ) → first_from p (n - 0) 0 ≡ first_from p n 0
sub_none p n = let m : n - 0 ≡ n = omega arith in ap (λ (k : ℕ). first_from p k 0) m

pub slots_start : (d : Desk) (s : List ℕ) {n : ℕ} → n ≡ slots_of d → first_from (λ i. not (slot_fits d s i)) (n - 0) 0 ≡ bad_slot d s
unfolding bad_slot
slots_start d s {n} e = let m : n - 0 ≡ slots_of d = omega arith in ap (λ (k : ℕ). first_from (λ i. not (slot_fits d s i)) k 0) m

pub entries_start : (d : Desk) (s : List ℕ) {n : ℕ} → n ≡ entries_of d → first_from (λ i. not (entry_fits d s i)) (n - 0) 0 ≡ bad_entry d s
unfolding bad_entry
entries_start d s {n} e = let m : n - 0 ≡ entries_of d = omega arith in ap (λ (k : ℕ). first_from (λ i. not (entry_fits d s i)) k 0) m

-- ---- the three searches, one after the other
module _ (d : Desk) (s : List ℕ) where
  pub bad_first : {i : ℕ} → bad_slot d s ≡ at i → Err (BadSlot i) ≡ form_of d s
  unfolding form_of form_by
  bad_first a = ap (λ (x : Found). form_by x (repeated_slot d s) (bad_entry d s)) (sym a)

  pub repeated_first : {i : ℕ} → bad_slot d s ≡ nowhere → repeated_slot d s ≡ at i → Err (Repeated i) ≡ form_of d s
  unfolding form_of form_by
  repeated_first a b = λ k. form_by (sym a k) (sym b k) (bad_entry d s)

  pub entry_first : {i : ℕ} → bad_slot d s ≡ nowhere → repeated_slot d s ≡ nowhere → bad_entry d s ≡ at i → Err (BadEntry i) ≡ form_of d s
  unfolding form_of form_by
  entry_first a b c = λ k. form_by (sym a k) (sym b k) (sym c k)

  pub none_first : bad_slot d s ≡ nowhere → repeated_slot d s ≡ nowhere → bad_entry d s ≡ nowhere → (Ok tt) ≡ form_of d s
  unfolding form_of form_by
  none_first a b c = λ k. form_by (sym a k) (sym b k) (sym c k)
