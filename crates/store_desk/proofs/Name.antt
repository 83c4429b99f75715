-- Names: equality tests are equality, kinds lie side by side, what a name in range says, and the places that a desk gives lie within it.
-- By cases on the kind, the tests' facts and laws of products.
-- Assumes nothing.
use mathlib.Core.Path.{◌≡◌, refl, sym, ap, ◌∙◌, subst}
use mathlib.Core.Bool.{true}
use Prim.Native.Nat.{ℕ, ◌+◌, ◌-◌, ◌*◌, ◌/◌, ◌%◌, ◌≤◌, ◌<◌}
use native.Mathlib.Nat.{mul_comm}
use native.Mathlib.Omega.{arith}
use lib.Dec.{ltb}
use lib.Arith.{digits_lt, digits_div, digits_mod}
use borrow.Author.Tests.{leb-true, le-leb, ltb-true, lt-ltb, le-ltb, eqb-true, eq-eqb}
use Rattle.store_desk.specs.declared.Desk.{Desk}
use Rattle.store_desk.specs.declared.Key.{Key}
use Rattle.store_desk.specs.declared.Kind.{Kind}
use Rattle.store_desk.specs.declared.Kind.TheVariants.{Cue, Group, Sub}
use Rattle.store_desk.specs.Size.{Within, InRange, most_pages, sub_slots, slots_of, entries_of}
use Rattle.value.specs.Number.{whole_max, fraction_max}
use Rattle.store_head.specs.Fits.{whole_span, fraction_span}
use Rattle.store_desk.specs.Name.{first_slot, slot_count, slots_end, pages_of, kind_at, supported, Name, kind_number, eq_kind, eq_key, eq_name, ok_number, ok_sub, ok_within, ok_page, ok_name, KeyFits, has_slot, has_dimmer, sub_slot, entry_of}
use Rattle.store_desk.proofs.Size.{within, all_at, all_none, all_more}
use Rattle.cells.proofs.Split.{by_lt, cond-true, cond-false, same_test}

-- ---- equality
pub eq_kind_lem : (a b : Kind) → eq_kind a b ≡ true → a ≡ b
unfolding eq_kind
eq_kind_lem Cue Cue e = refl
eq_kind_lem Cue Group e = absurd (let z : ◌≡◌ {A = ℕ} 0 1 = eqb-true 0 1 e in omega arith)
eq_kind_lem Cue Sub e = absurd (let z : ◌≡◌ {A = ℕ} 0 2 = eqb-true 0 2 e in omega arith)
eq_kind_lem Group Cue e = absurd (let z : ◌≡◌ {A = ℕ} 1 0 = eqb-true 1 0 e in omega arith)
eq_kind_lem Group Group e = refl
eq_kind_lem Group Sub e = absurd (let z : ◌≡◌ {A = ℕ} 1 2 = eqb-true 1 2 e in omega arith)
eq_kind_lem Sub Cue e = absurd (let z : ◌≡◌ {A = ℕ} 2 0 = eqb-true 2 0 e in omega arith)
eq_kind_lem Sub Group e = absurd (let z : ◌≡◌ {A = ℕ} 2 1 = eqb-true 2 1 e in omega arith)
eq_kind_lem Sub Sub e = refl

pub eq_kind-true : (a b : Kind) → a ≡ b → eq_kind a b ≡ true
unfolding eq_kind
eq_kind-true a b e = eq-eqb (kind_number a) (kind_number b) (ap kind_number e)

pub eq_key_lem : (a b : Key) → eq_key a b ≡ true → a ≡ b
unfolding eq_key
eq_key_lem a b e =
    let p : a.page ≡ b.page = eqb-true _ _ (all_at _ 0 e) in
    let w : a.whole ≡ b.whole = eqb-true _ _ (all_at _ 1 e) in
    let f : a.fraction ≡ b.fraction = eqb-true _ _ (all_at _ 2 e) in
    λ i. record { page = p i; whole = w i; fraction = f i }

pub eq_key-true : (a b : Key) → a ≡ b → eq_key a b ≡ true
unfolding eq_key
eq_key-true a b e =
    all_more _ _ (eq-eqb _ _ (ap (λ (k : Key). k.page) e))
    (all_more _ _ (eq-eqb _ _ (ap (λ (k : Key). k.whole) e))
    (all_more _ _ (eq-eqb _ _ (ap (λ (k : Key). k.fraction) e)) all_none))

pub eq_name_lem : (a b : Name) → eq_name a b ≡ true → a ≡ b
unfolding eq_name
eq_name_lem a b e =
    let k : a.kind ≡ b.kind = eq_kind_lem _ _ (all_at _ 0 e) in
    let y : a.key ≡ b.key = eq_key_lem _ _ (all_at _ 1 e) in
    λ i. record { kind = k i; key = y i }

pub eq_name-true : (a b : Name) → a ≡ b → eq_name a b ≡ true
unfolding eq_name
eq_name-true a b e =
    all_more _ _ (eq_kind-true _ _ (ap (λ (n : Name). n.kind) e))
    (all_more _ _ (eq_key-true _ _ (ap (λ (n : Name). n.key) e)) all_none)

pub eq_name_refl : (a : Name) → eq_name a a ≡ true
eq_name_refl a = eq_name-true a a refl

-- of one kind, names are equal where keys are
pub eq_name-key : (a b : Name) → a.kind ≡ b.kind → eq_name a b ≡ eq_key a.key b.key
unfolding eq_name
eq_name-key a b e =
    same_test (eq_name a b) (eq_key a.key b.key)
    (λ t. all_at _ 1 t)
    (λ t. all_more _ _ (eq_kind-true _ _ e) (all_more _ _ t all_none))

-- ---- the kinds lie side by side
pub kind_end : (d : Desk) (k : Kind) → slots_end d k ≤ slots_of d
unfolding first_slot slot_count slots_of
kind_end d Cue = omega arith
kind_end d Group = omega arith
kind_end d Sub = omega arith

pub kind_of : (d : Desk) (k : Kind) (i : ℕ) → first_slot d k ≤ i → i < slots_end d k → kind_at d i ≡ k
unfolding first_slot slot_count kind_at
kind_of d Cue i l h = cond-true _ _ _ (lt-ltb i d.cues (omega arith))
kind_of d Group i l h =
    cond-false _ _ _ (le-ltb i d.cues l) ∙ cond-true _ _ _ (lt-ltb i (d.cues + d.groups) h)
kind_of d Sub i l h =
    cond-false _ _ _ (le-ltb i d.cues (omega arith)) ∙ cond-false _ _ _ (le-ltb i (d.cues + d.groups) l)

-- a slot is in the range of its kind
pub kind_at_lem : (d : Desk) (i : ℕ) → i < slots_of d → (first_slot d (kind_at d i) ≤ i) × (i < slots_end d (kind_at d i))
unfolding kind_at
kind_at_lem d i h =
    by_lt i d.cues
    (λ a. subst P (sym (cond-true _ _ _ (lt-ltb _ _ a))) (in_cue a))
    (λ a.
    by_lt i (d.cues + d.groups)
    (λ b. subst P (sym (cond-false _ _ _ (le-ltb _ _ a) ∙ cond-true _ _ _ (lt-ltb _ _ b))) (in_group a b))
    (λ b. subst P (sym (cond-false _ _ _ (le-ltb _ _ a) ∙ cond-false _ _ _ (le-ltb _ _ b))) (in_sub b)))
  where
    P : Kind → Type 0
    P k = (first_slot d k ≤ i) × (i < slots_end d k)

    in_cue : i < d.cues → (first_slot d Cue ≤ i) × (i < slots_end d Cue)
    in_cue a = unfold first_slot slot_count in (omega arith)

    in_group : d.cues ≤ i → i < d.cues + d.groups → (first_slot d Group ≤ i) × (i < slots_end d Group)
    in_group a b = unfold first_slot slot_count in (omega arith)

    in_sub : d.cues + d.groups ≤ i → (first_slot d Sub ≤ i) × (i < slots_end d Sub)
    in_sub b = unfold first_slot slot_count slots_of in (omega arith)

-- ---- names that can be
pub number_low : (whole fraction : ℕ) → whole ≤ whole_max → fraction ≤ fraction_max → ltb 0 (whole + fraction) ≡ ok_number whole fraction
unfolding ok_number
number_low w f hw hf =
    same_test (ltb 0 (w + f)) _
    (λ e. all_more _ _ e (all_more _ _ (le-leb w whole_max hw) (all_more _ _ (le-leb f fraction_max hf) all_none)))
    (λ e. all_at _ 0 e)

pub ok_number_lem : (whole fraction : ℕ) → ok_number whole fraction ≡ true → (0 < whole + fraction) × (whole ≤ whole_max) × (fraction ≤ fraction_max)
unfolding ok_number
ok_number_lem w f e = (ltb-true _ _ (all_at _ 0 e), leb-true _ _ (all_at _ 1 e), leb-true _ _ (all_at _ 2 e))

pub ok_sub_lem : (d : Desk) (whole fraction : ℕ) → ok_sub d whole fraction ≡ true → Within 1 whole d.subs × (fraction ≡ 0)
unfolding ok_sub
ok_sub_lem d w f e = (within 1 w d.subs (all_at _ 0 e), eqb-true f 0 (all_at _ 1 e))

module _ (d : Desk) (n : Name) (e : ok_name d n ≡ true) where
  pub ok_supported : supported d n.kind ≡ true
  unfolding ok_name
  ok_supported = all_at _ 0 e

  pub ok_within_lem : ok_within d n.kind n.key ≡ true
  unfolding ok_name
  ok_within_lem = all_at _ 1 e

  pub ok_page_lem : Within 1 n.key.page (pages_of d n.kind)
  unfolding ok_name ok_page
  ok_page_lem = within 1 _ _ (all_at _ 2 e)

pub pages_le : (d : Desk) → InRange d → (k : Kind) → pages_of d k ≤ most_pages
unfolding pages_of
pages_le d h Cue = h.cue_pages_of.1
pages_le d h Group = h.group_pages_of.1
pages_le d h Sub = let l = h.sub_pages_of.1 in omega arith

within_fits : (d : Desk) → InRange d → (k : Kind) (key : Key) → ok_within d k key ≡ true → (key.whole < whole_span) × (key.fraction < fraction_span)
unfolding ok_within
within_fits d h Cue key e = let o = ok_number_lem _ _ e in omega arith
within_fits d h Group key e = let o = ok_number_lem _ _ e in omega arith
within_fits d h Sub key e = let o = ok_sub_lem d _ _ e in let l = h.subs.1 in omega arith

pub ok_fits : (d : Desk) (n : Name) → InRange d → ok_name d n ≡ true → KeyFits n.key
ok_fits d n h e =
    let p = ok_page_lem d n e in
    let l = pages_le d h n.kind in
    let w = within_fits d h n.kind n.key (ok_within_lem d n e) in
    record { page = omega arith; whole = w.0; fraction = w.1 }

-- ---- places that a desk gives
-- one of b on each of a pages: within them all
pub page_place : (a b p q : ℕ) → Within 1 p a → Within 1 q b → (p - 1) * b + (q - 1) < b * a
page_place a b p q hp hq =
    subst (λ (z : ℕ). (p - 1) * b + (q - 1) < z) (mul_comm a b)
    (digits_lt (let l : p - 1 < a = omega arith in l) (let l : q - 1 < b = omega arith in l))

pub entry_inside : (d : Desk) (page dimmer : ℕ) → Within 1 page d.patch_pages → Within 1 dimmer d.dimmers
    → entry_of d page dimmer < entries_of d
unfolding entry_of entries_of
entry_inside d p q hp hq = page_place d.patch_pages d.dimmers p q hp hq

pub sub_inside : (d : Desk) (key : Key) → Within 1 key.page d.sub_pages → Within 1 key.whole d.subs
    → (first_slot d Sub ≤ sub_slot d key) × (sub_slot d key < slots_end d Sub)
unfolding sub_slot sub_slots slot_count
sub_inside d key hp hq =
    let l : (key.page - 1) * d.subs + (key.whole - 1) < d.subs * d.sub_pages = page_place d.sub_pages d.subs key.page key.whole hp hq in
    omega arith

-- two that share a place are the same
page_same : (b p q p₂ q₂ : ℕ) → 1 ≤ p → 1 ≤ p₂ → Within 1 q b → Within 1 q₂ b → (p - 1) * b + (q - 1) ≡ (p₂ - 1) * b + (q₂ - 1) → (p ≡ p₂) × (q ≡ q₂)
page_same b p q p₂ q₂ hp hp₂ hq hq₂ e =
    let l : q - 1 < b = omega arith in
    let l₂ : q₂ - 1 < b = omega arith in
    let f : p - 1 ≡ p₂ - 1 = sym (digits_div (p - 1) l) ∙ ap (λ (z : ℕ). z / b) e ∙ digits_div (p₂ - 1) l₂ in
    let g : q - 1 ≡ q₂ - 1 = sym (digits_mod (p - 1) l) ∙ ap (λ (z : ℕ). z % b) e ∙ digits_mod (p₂ - 1) l₂ in
    (omega arith, omega arith)

pub entry_same : (d : Desk) (page dimmer page₂ dimmer₂ : ℕ) → 1 ≤ page → 1 ≤ page₂ → Within 1 dimmer d.dimmers → Within 1 dimmer₂ d.dimmers
    → entry_of d page dimmer ≡ entry_of d page₂ dimmer₂ → (page ≡ page₂) × (dimmer ≡ dimmer₂)
unfolding entry_of
entry_same d p q p₂ q₂ hp hp₂ hq hq₂ e = page_same d.dimmers p q p₂ q₂ hp hp₂ hq hq₂ e

-- a submaster's name in range: its parts
pub sub_parts : (d : Desk) (key : Key) → ok_name d (record { kind = Sub; key = key }) ≡ true
    → Within 1 key.page d.sub_pages × Within 1 key.whole d.subs × (key.fraction ≡ 0)
unfolding ok_within pages_of
sub_parts d key e =
    let n : Name = record { kind = Sub; key = key } in
    let o = ok_sub_lem d key.whole key.fraction (ok_within_lem d n e) in
    (ok_page_lem d n e, o.0, o.1)

pub sub_same : (d : Desk) (a b : Key) → ok_name d (record { kind = Sub; key = a }) ≡ true → ok_name d (record { kind = Sub; key = b }) ≡ true
    → sub_slot d a ≡ sub_slot d b → a ≡ b
unfolding sub_slot
sub_same d a b ha hb e =
    let pa = sub_parts d a ha in
    let pb = sub_parts d b hb in
    let c : (a.page - 1) * d.subs + (a.whole - 1) ≡ (b.page - 1) * d.subs + (b.whole - 1) = omega arith in
    let q = page_same d.subs a.page a.whole b.page b.whole pa.0.0 pb.0.0 pa.1 pb.1 c in
    let f : a.fraction ≡ b.fraction = omega arith in
    λ i. record { page = q.0 i; whole = q.1 i; fraction = f i }

-- ---- slots and dimmers by number

pub slot_there : (d : Desk) (n : ℕ) → has_slot d n ≡ true → Within 1 n (slots_of d)
unfolding has_slot
slot_there d n e = within 1 n (slots_of d) e

pub dimmer_there : (d : Desk) (page dimmer : ℕ) → has_dimmer d page dimmer ≡ true
    → Within 1 page d.patch_pages × Within 1 dimmer d.dimmers
unfolding has_dimmer
dimmer_there d page dimmer e = (within 1 page _ (all_at _ 0 e), within 1 dimmer _ (all_at _ 1 e))
