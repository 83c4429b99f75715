-- The bridge from bytes to slots and entries: where they lie, that they lie within the store, and what a lent part that comes back makes of
-- it. By laws of products and of replaced parts.
-- Assumes nothing.
use mathlib.Core.Path.{◌≡◌, refl, sym, ap, ◌∙◌, subst}
use mathlib.Core.Bool.{cond}
use mathlib.Core.List.{List, ◌++◌}
use Prim.Native.Nat.{ℕ, suc, ◌+◌, ◌-◌, ◌*◌, ◌≤◌, ◌<◌}
use native.Mathlib.Nat.{mul_comm, mul_assoc}
use native.Mathlib.Numerals.{add-one}
use native.Mathlib.Omega.{arith}
use lib.Dec.{eqb}
use borrow.Author.Tests.{eq-eqb, ne_eqb}
use Rattle.cells.proofs.Split.{cond-true, cond-false}
use lib.ListN.{length, take, drop, set, replicate, length-drop}
use lib.Seq.{length-take-le, drop-drop}
use Rattle.cells.specs.Put.{put}
use Rattle.cells.proofs.Arith.{apart, products}
use Rattle.cells.proofs.Put.{put_back, put_fill, part_of_front}
use Rattle.store_desk.specs.declared.Desk.{Desk}
use Rattle.store_desk.specs.declared.Key.{Key}
use Rattle.store_desk.specs.declared.Kind.{Kind}
use Rattle.store_desk.specs.Size.{head_length, Within, InRange, level_width, levels_length, slot_length, slots_of, patch_start, entries_of, store_length}
use Rattle.store_desk.specs.Name.{slots_end, first_slot, slot_count, entry_of}
use Rattle.store_desk.proofs.Size.{slot_le, slots_le, patch_le, store_le}
use Rattle.store_desk.proofs.Name.{kind_end, entry_inside}
use Rattle.store_head.specs.declared.Head.{Head}
use Rattle.store_head.specs.declared.Patch.{Patch}
use Rattle.store_head.specs.Layout.{encode_head, decode_head, encode_patch, decode_patch}
use Rattle.store_head.specs.Fits.{HeadFits}
use Rattle.store_head.proofs.Laws.{decode_fits, length-encode_patch}
use Rattle.store.specs.declared.Edit.{Edit}
use Rattle.store.specs.declared.Edit.TheVariants.{Level}
use Rattle.store.specs.Slots.{slot_at, put_slot, entry_at, put_entry, levels_at, level_place}
use Rattle.store.specs.Change.{blank_head, blank_slot, edit_head, with_head, edit_slot, edit_at, hits_at, clear_from, patch_page_length, cleared_patch, patch_entry, patched, cleared}
use Rattle.store.specs.Fits.{EditFits}
use Rattle.store.specs.View.{patched_to}
use Rattle.store.proofs.Places.{slots_end_lem, slot_end, entry_end, slot_length_lem, entry_length}
use Rattle.store.proofs.Levels.{level_inside, level_slot}
use Rattle.store.proofs.Edits.{edit_fits}
use Rattle.store_code.specs.Fits.{Fitting, OnPatch}

-- ---- a store that was written to is as long as it was
pub fitting_kept : (d : Desk) (s t : List ℕ) → length t ≡ length s → Fitting d s → Fitting d t
fitting_kept d s t l f = record { range = f.range; long = let h = f.long in omega arith }

-- ---- slots lie within the store, where a place is a number of 64 bits
module _ (d : Desk) (i : ℕ) (h : i < slots_of d) where
  pub slot_small : InRange d → i * slot_length d + slot_length d ≤ 1643264
  slot_small r = let a = slot_end d i h in let b = patch_le d r in omega arith

  pub slot_room : {s : List ℕ} → Fitting d s → i * slot_length d + slot_length d ≤ length s
  slot_room f = let a = slot_end d i h in let b = slots_end_lem d in let c = f.long in omega arith

-- where one has room, each before it has
pub slot_before : (d : Desk) {i j n : ℕ} → i ≤ j → j * slot_length d + slot_length d ≤ n → i * slot_length d + slot_length d ≤ n
slot_before d {i} {j} h r = let l : i * slot_length d ≤ j * slot_length d = products (slot_length d) h in omega arith

pub slot_long : (d : Desk) → 24 ≤ slot_length d
unfolding slot_length
slot_long d = omega arith

-- the slots of a kind are among them
pub kind_small : (d : Desk) (k : Kind) → InRange d → slots_end d k ≤ 1568
kind_small d k r = let a = kind_end d k in let b = slots_le d r in omega arith

pub kind_slot : (d : Desk) (k : Kind) {first count end i : ℕ}
    → first ≡ first_slot d k → count ≡ slot_count d k → end ≡ first + count → i < end → i < slots_of d
kind_slot d k a b e h = let l = kind_end d k in omega arith

-- and so are their bytes
module _ (d : Desk) (k : Kind) {first end len : ℕ} (ef : first ≡ first_slot d k) (ee : end ≡ slots_end d k) (el : len ≡ slot_length d) where
  pub kind_bytes : end * len ≤ patch_start d
  unfolding patch_start
  kind_bytes =
      let l : end ≤ slots_of d = (let a = kind_end d k in omega arith) in
      subst (λ (z : ℕ). end * z ≤ slots_of d * slot_length d) (sym el) (products (slot_length d) l)

  pub kind_room : {s : List ℕ} → Fitting d s → end * len ≤ length s
  kind_room f = let a : end * len ≤ patch_start d = kind_bytes in let b = slots_end_lem d in let c = f.long in omega arith

  pub kind_order : first * len ≤ end * len
  kind_order = products len (let l : first ≤ end = omega arith in l)

-- ---- a slot that is lent
module _ (d : Desk) (s : List ℕ) (i : ℕ) {a e : ℕ} (ea : a ≡ i * slot_length d) (ee : e ≡ i * slot_length d + slot_length d) where
  slot_span : e - a ≡ slot_length d
  slot_span = omega arith

  pub slot_is : take (e - a) (drop a s) ≡ slot_at d s i
  unfolding slot_at
  slot_is = ap (λ (z : ℕ). take z (drop a s)) slot_span ∙ ap (λ (z : ℕ). take (slot_length d) (drop z s)) ea

  pub lent_long : i * slot_length d + slot_length d ≤ length s → length (take (e - a) (drop a s)) ≡ slot_length d
  lent_long r =
      let m : e - a ≡ slot_length d = slot_span in
      let l : length (drop a s) ≡ length s - a = length-drop a s in
      let k : e - a ≤ length (drop a s) = omega arith in
      length-take-le (e - a) (drop a s) k ∙ m

  module _ (f : Fitting d s) (h : i < slots_of d) where
    pub slot_ends : (a ≤ e) × (e ≤ length s)
    slot_ends = let r = slot_room d i h f in omega arith

    pub lent_length : length (take (e - a) (drop a s)) ≡ slot_length d
    lent_length = lent_long (slot_room d i h f)

    -- what comes back
    pub slot_back : (ys xs : List ℕ) → ys ≡ xs → length xs ≡ slot_length d → take a s ++ (ys ++ drop (e - a) (drop a s)) ≡ put_slot d s i xs
    unfolding put_slot
    slot_back ys xs q l = put_back s a (e - a) ys xs q (l ∙ sym slot_span) ∙ ap (λ (z : ℕ). put s z xs) ea

pub slot_head : (d : Desk) (s : List ℕ) (i : ℕ) {x : List ℕ} → Fitting d s → i < slots_of d → x ≡ slot_at d s i → 24 ≤ length x
slot_head d s i f h e = let l = ap length e ∙ slot_length_lem d s f.long i h in let g = slot_long d in omega arith

-- ---- levels
-- where one stands, as the code computes it
module _ (d : Desk) {c n w : ℕ} (h : Within 1 c d.channels) (en : n ≡ c) (ew : w ≡ level_width d) where
  level_is : 24 + (n - 1) * w ≡ level_place d c
  unfolding level_place
  level_is = ap (λ (k : ℕ). 24 + (k - 1) * w) en ∙ ap (λ (k : ℕ). 24 + (c - 1) * k) ew

  pub level_room : {m : ℕ} → slot_length d ≤ m → 24 + (n - 1) * w < m
  level_room l = let e : 24 + (n - 1) * w ≡ level_place d c = level_is in let g = level_inside d c h in omega arith

  pub level_small : InRange d → 24 + (n - 1) * w < 1048
  level_small r = level_room (slot_le d r)

  pub level_set : (x y : List ℕ) (v : ℕ) → y ≡ set x (24 + (n - 1) * w) v → y ≡ edit_slot d (Level c v) x
  level_set x y v e = e ∙ ap (λ (k : ℕ). set x k v) level_is ∙ level_slot d c v x

pub levels_is : (d : Desk) (s : List ℕ) (i : ℕ) {b e : ℕ} → b ≡ i * slot_length d + head_length → e ≡ i * slot_length d + slot_length d
    → take (e - b) (drop b s) ≡ levels_at d s i
unfolding levels_at slot_at
levels_is d s i {b} {e} eb ee =
    let a = i * slot_length d in
    let g = slot_long d in
    let m : 24 + (e - (a + 24)) ≡ slot_length d = omega arith in
    ap (λ (z : ℕ). take (e - z) (drop z s)) eb
    ∙ ap (λ (z : List ℕ). take (e - (a + 24)) z) (sym (drop-drop 24 a s))
    ∙ part_of_front (drop a s) 24 (e - (a + 24))
    ∙ ap (λ (z : ℕ). drop 24 (take z (drop a s))) m

-- ---- a slot afresh
pub blank_is : (d : Desk) (key : Key) {h : Head} {xs : List ℕ} {n : ℕ}
    → xs ≡ encode_head h ++ replicate (n - 24) 0 → h ≡ blank_head key → n ≡ slot_length d → xs ≡ blank_slot d key
unfolding blank_slot slot_length
blank_is d key {h} {xs} {n} e q l =
    let m : n - 24 ≡ levels_length d = omega arith in
    e ∙ ap (λ (z : Head). encode_head z ++ replicate (n - 24) 0) q ∙ ap (λ (k : ℕ). encode_head (blank_head key) ++ replicate k 0) m

-- ---- a change
pub change_fits : (d : Desk) (e : Edit) (x : List ℕ) → EditFits e → slot_length d ≤ length x → HeadFits (edit_head e (decode_head x)) × (24 ≤ length x)
change_fits d e x f l = let g = slot_long d in (edit_fits e (decode_head x) (decode_fits x) f, omega arith)

-- the slot after it, by the arms
pub edit_by : (d : Desk) (xs : List ℕ) {x v : Edit} {t : List ℕ} → x ≡ v → ((y : List ℕ) → with_head v y ≡ edit_slot d v y) → t ≡ with_head x xs → t ≡ edit_slot d x xs
edit_by d xs {x} {v} {t} e f r = r ∙ subst (λ (z : Edit). with_head z xs ≡ edit_slot d z xs) (sym e) (f xs)

pub edit_level : (d : Desk) (xs : List ℕ) {x v : Edit} {t : List ℕ} → x ≡ v → t ≡ edit_slot d v xs → t ≡ edit_slot d x xs
edit_level d xs {x} {v} {t} e r = r ∙ ap (λ (z : Edit). edit_slot d z xs) (sym e)

-- and in the store
pub edit_back : (d : Desk) (s : List ℕ) (i : ℕ) (x : Edit) {a e : ℕ} (ys : List ℕ)
    → a ≡ i * slot_length d → e ≡ i * slot_length d + slot_length d → Fitting d s → i < slots_of d
    → ys ≡ edit_slot d x (take (e - a) (drop a s)) → length ys ≡ length (take (e - a) (drop a s))
    → take a s ++ (ys ++ drop (e - a) (drop a s)) ≡ edit_at d s i x
unfolding edit_at
edit_back d s i x {a} {e} ys ea ee f h q l =
    slot_back d s i ea ee f h ys ys refl (l ∙ lent_length d s i ea ee f h)
    ∙ ap (λ (z : List ℕ). put_slot d s i z) (q ∙ ap (λ (z : List ℕ). edit_slot d x z) (slot_is d s i ea ee))

-- ---- patch entries
module _ (d : Desk) (j : ℕ) (h : j < entries_of d) where
  pub entry_small : InRange d → patch_start d + j * 3 + 3 ≤ 1649408
  entry_small r = let a = entry_end d j h in let b = store_le d r in omega arith

  pub entry_room : {s : List ℕ} → Fitting d s → patch_start d + j * 3 + 3 ≤ length s
  entry_room f = let a = entry_end d j h in let b = f.long in omega arith

-- a dimmer's is one of them
pub entry_there : (d : Desk) (page dimmer : ℕ) {j : ℕ} → OnPatch d page dimmer → j ≡ entry_of d page dimmer → j < entries_of d
entry_there d page dimmer o e = subst (λ (z : ℕ). z < entries_of d) (sym e) (entry_inside d page dimmer o.on_page o.on_dimmer)

pub entry_is : (d : Desk) (s : List ℕ) (j : ℕ) {a e : ℕ} → a ≡ patch_start d + j * 3 → e ≡ patch_start d + j * 3 + 3 → take (e - a) (drop a s) ≡ entry_at d s j
unfolding entry_at
entry_is d s j {a} {e} ea ee =
    let m : e - a ≡ 3 = omega arith in
    ap (λ (z : ℕ). take z (drop a s)) m ∙ ap (λ (z : ℕ). take 3 (drop z s)) ea

pub entry_whole : (d : Desk) (s : List ℕ) (j : ℕ) {x : List ℕ} → Fitting d s → j < entries_of d → x ≡ entry_at d s j → 3 ≤ length x
entry_whole d s j f h e = let l = ap length e ∙ entry_length d s f.long j h in omega arith

pub patched_is : (d : Desk) (s : List ℕ) (page dimmer : ℕ) {j : ℕ} {x : List ℕ} {p : Patch} → j ≡ entry_of d page dimmer → x ≡ entry_at d s j
    → p ≡ decode_patch x → p ≡ patched_to d s page dimmer
unfolding patched_to
patched_is d s page dimmer ej ex e = e ∙ ap decode_patch (ex ∙ ap (entry_at d s) ej)

pub patch_back : (d : Desk) (s : List ℕ) (page dimmer channel level : ℕ) {j a e : ℕ} (ys : List ℕ) {bs : List ℕ}
    → j ≡ entry_of d page dimmer → a ≡ patch_start d + j * 3 → e ≡ patch_start d + j * 3 + 3
    → bs ≡ encode_patch (patch_entry channel level) → ys ≡ bs
    → take a s ++ (ys ++ drop (e - a) (drop a s)) ≡ patched d s page dimmer channel level
unfolding patched put_entry
patch_back d s page dimmer channel level {j} {a} {e} ys {bs} ej ea ee eb q =
    let m : 3 ≡ e - a = omega arith in
    put_back s a (e - a) ys (encode_patch (patch_entry channel level)) (q ∙ eb) (length-encode_patch (patch_entry channel level) ∙ m)
    ∙ ap (λ (z : ℕ). put s z (encode_patch (patch_entry channel level))) ea
    ∙ ap (λ (z : ℕ). put_entry d s z (encode_patch (patch_entry channel level))) ej

-- ---- zeros
pub zero_back : (s : List ℕ) (a n : ℕ) (ys : List ℕ) → ys ≡ replicate (length (take (a + n - a) (drop a s))) 0 → a + n ≤ length s
    → take a s ++ (ys ++ drop (a + n - a) (drop a s)) ≡ put s a (replicate n 0)
zero_back s a n ys e h =
    let m : a + n - a ≡ n = omega arith in
    let r : a + (a + n - a) ≤ length s = omega arith in
    put_fill s a (a + n - a) ys 0 e r ∙ ap (λ (k : ℕ). put s a (replicate k 0)) m

-- the patch entries of every page
module _ (d : Desk) where
  pub patch_room : {s : List ℕ} {a n : ℕ} → Fitting d s → a ≡ patch_start d → n ≡ entries_of d → a + n * 3 ≤ length s
  unfolding store_length
  patch_room f ea en = let l = f.long in omega arith

  pub patch_cleared : (s t : List ℕ) (p : ℕ) {a n : ℕ} → p ≡ 0 → a ≡ patch_start d → n ≡ entries_of d → t ≡ put s a (replicate (n * 3) 0) → t ≡ cleared_patch d s p
  unfolding cleared_patch
  patch_cleared s t p {a} {n} z ea en e =
      e
      ∙ ap (λ (k : ℕ). put s k (replicate (n * 3) 0)) ea
      ∙ ap (λ (k : ℕ). put s (patch_start d) (replicate (k * 3) 0)) en
      ∙ sym (cond-true (eqb p 0) _ _ (eq-eqb p 0 z))

  -- and of one
  module _ {p : ℕ} (h : p ≤ d.patch_pages) (np : p ≡ 0 → ⊥) {a m q : ℕ} (ea : a ≡ patch_start d) (em : m ≡ d.dimmers) (eq : q ≡ p) where
    page_end : a + (q - 1) * (m * 3) + m * 3 ≤ store_length d
    unfolding store_length entries_of
    page_end =
        let l : (q - 1) * (m * 3) + m * 3 ≤ d.patch_pages * (m * 3) = apart (m * 3) (let k : q - 1 < d.patch_pages = omega arith in k) in
        let r : d.patch_pages * (m * 3) ≡ d.dimmers * d.patch_pages * 3 =
        sym (mul_assoc d.patch_pages m 3) ∙ ap (λ (k : ℕ). k * 3) (mul_comm d.patch_pages m ∙ ap (λ (k : ℕ). k * d.patch_pages) em)
        in
        omega arith

    pub page_small : InRange d → a + (q - 1) * (m * 3) + m * 3 ≤ 1649408
    page_small r = let l : a + (q - 1) * (m * 3) + m * 3 ≤ store_length d = page_end in let b = store_le d r in omega arith

    pub page_room : {s : List ℕ} → Fitting d s → a + (q - 1) * (m * 3) + m * 3 ≤ length s
    page_room f = let l : a + (q - 1) * (m * 3) + m * 3 ≤ store_length d = page_end in let b = f.long in omega arith

    pub page_cleared : (s t : List ℕ) → t ≡ put s (a + (q - 1) * (m * 3)) (replicate (m * 3) 0) → t ≡ cleared_patch d s p
    unfolding cleared_patch patch_page_length
    page_cleared s t e =
        e
        ∙ ap (λ (k : ℕ). put s (k + (q - 1) * (m * 3)) (replicate (m * 3) 0)) ea
        ∙ ap (λ (k : ℕ). put s (patch_start d + (k - 1) * (m * 3)) (replicate (m * 3) 0)) eq
        ∙ ap (λ (k : ℕ). put s (patch_start d + (p - 1) * (k * 3)) (replicate (k * 3) 0)) em
        ∙ sym (cond-false (eqb p 0) _ _ (ne_eqb p 0 np))

-- one turn of the loop that clears
pub clear_turn : (d : Desk) (p e i : ℕ) (s t u : List ℕ)
    → i < e → t ≡ cond (hits_at d s p i) (put_slot d s i (replicate (slot_length d) 0)) s
    → clear_from d p (e - i) i s ≡ u → clear_from d p (e - (i + 1)) (i + 1) t ≡ u
unfolding clear_from
clear_turn d p e i s t u h q g =
    let m : e - i ≡ suc (e - (i + 1)) = omega arith in
    ap (λ (z : List ℕ). clear_from d p (e - (i + 1)) (i + 1) z) q
    ∙ ap (λ (k : ℕ). clear_from d p (e - (i + 1)) k (cond (hits_at d s p i) (put_slot d s i (replicate (slot_length d) 0)) s)) (add-one i)
    ∙ ap (λ (k : ℕ). clear_from d p k i s) (sym m)
    ∙ g

pub clear_done : (d : Desk) (p e i : ℕ) (s u : List ℕ) → e ≤ i → clear_from d p (e - i) i s ≡ u → s ≡ u
unfolding clear_from
clear_done d p e i s u h g = let m : e - i ≡ 0 = omega arith in ap (λ (k : ℕ). clear_from d p k i s) (sym m) ∙ g

pub clear_all : (d : Desk) (s : List ℕ) (k : Kind) (p : ℕ) {first end : ℕ} {t : List ℕ} → first ≡ first_slot d k → end ≡ slots_end d k
    → t ≡ clear_from d p (end - first) first s → t ≡ cleared d s k p
unfolding cleared
clear_all d s k p {first} {end} ef ee e =
    let m : end - first ≡ slot_count d k = omega arith in
    e ∙ ap (λ (z : ℕ). clear_from d p z first s) m ∙ ap (λ (z : ℕ). clear_from d p (slot_count d k) z s) ef
