-- The view loses nothing: a slot is the encoding of its memory, so stores in good form with the same memory in each slot and the same patch
-- agree on every needed byte. By encoding after decoding, slot by slot and entry by entry.
-- Assumes nothing.
use mathlib.Core.Path.{◌≡◌, refl, sym, ap, ◌∙◌, subst}
use mathlib.Core.List.{List, [], ◌∷◌, ◌++◌}
use Prim.Native.Nat.{ℕ, zero, suc, ◌+◌, ◌-◌, ◌*◌, ◌/◌, ◌%◌, ◌<◌, ◌≤◌}
use native.Mathlib.Nat.{zero-mul, add-zero, mul_comm, mod-lt, div-add-mod', div-lt_iff_lt-mul, add_assoc}
use native.Mathlib.Numerals.{add-one}
use native.Mathlib.Omega.{arith}
use lib.ListN.{length, take, drop, take-append-drop, length-take, get_or-eq_default}
use lib.Seq.{take-add, get_or-take, get_or-drop}
use Rattle.cells.proofs.Arith.{product_next}
use Rattle.cells.proofs.Split.{by_bool, by_lt, cond-true, cond-false}
use Rattle.store_desk.specs.declared.Desk.{Desk}
use Rattle.store_desk.specs.Size.{Within, InRange, head_length, entry_length_of, slot_length, slots_of, patch_start, entries_of, store_length}
use Rattle.store_desk.specs.Name.{entry_of}
use Rattle.store_head.specs.Pack.{Bytes}
use Rattle.store_head.specs.Layout.{encode_head, encode_patch, decode_patch}
use Rattle.store_head.proofs.Laws.{encode_decode, encode_decode_patch}
use Rattle.store.specs.Slots.{slot_at, entry_at, head_at, levels_at, is_used}
use Rattle.store.specs.View.{absent, kept, memory_at, patched_to}
use Rattle.store.specs.Memories.{slot_view}
use Rattle.store.specs.Good.{Ready}
use Rattle.store.proofs.Places.{slot_headed, entry_length}
use Rattle.store.proofs.Find.{kept_inj, kept-absent}
use Rattle.store.proofs.Form.{unused_zero}

-- ---- parts of bytes are bytes
pub bytes_drop : (n : ℕ) (s : List ℕ) → Bytes s → Bytes (drop n s)
bytes_drop n s f i = subst (λ (z : ℕ). z < 256) (sym (get_or-drop n s i 0)) (f (n + i))

pub bytes_take : (n : ℕ) (s : List ℕ) → Bytes s → Bytes (take n s)
bytes_take n s f i =
    by_lt i n
    (λ l. subst (λ (z : ℕ). z < 256) (sym (get_or-take n s i 0 l)) (f i))
    (λ l.
    let k : length (take n s) ≤ i = let e = length-take n s in omega arith in
    subst (λ (z : ℕ). z < 256) (sym (get_or-eq_default (take n s) (zero) k)) (omega arith))

pub slot_bytes : (d : Desk) (s : List ℕ) → Bytes s → (i : ℕ) → Bytes (slot_at d s i)
unfolding slot_at
slot_bytes d s b i = bytes_take (slot_length d) (drop (i * slot_length d) s) (bytes_drop (i * slot_length d) s b)

-- ---- a slot is the encoding of its memory, an entry of its patch
pub slot_encodes : (d : Desk) (s : List ℕ) → store_length d ≤ length s → Bytes s → (i : ℕ) → i < slots_of d
    → slot_at d s i ≡ encode_head (head_at d s i) ++ levels_at d s i
unfolding head_at levels_at
slot_encodes d s long b i h =
    let x = slot_at d s i in
    sym (take-append-drop head_length x) ∙ ap (λ (z : List ℕ). z ++ drop head_length x) (sym (encode_decode x (slot_headed d s long i h) (slot_bytes d s b i)))

pub entry_encodes : (d : Desk) (s : List ℕ) → store_length d ≤ length s → Bytes s → (j : ℕ) → j < entries_of d
    → entry_at d s j ≡ encode_patch (decode_patch (entry_at d s j))
entry_encodes d s long b j h =
    let x = entry_at d s j in
    let e : length x ≡ entry_length_of = entry_length d s long j h in
    let f : Bytes x = unfold entry_at in (bytes_take entry_length_of (drop (patch_start d + j * entry_length_of) s) (bytes_drop (patch_start d + j * entry_length_of) s b)) in
    sym (ap (λ (n : ℕ). take n x) (sym e) ∙ take_whole x) ∙ sym (encode_decode_patch x (omega arith) f)
  where
    take_whole : (x : List ℕ) → take (length x) x ≡ x
    take_whole [] = refl
    take_whole (a ∷ x) = ap (λ (z : List ℕ). a ∷ z) (take_whole x)

-- ---- each entry is a dimmer's
dimmer_of_lem : (d : Desk) → InRange d → (j : ℕ) → j < entries_of d
    → (Within 1 (j / d.dimmers + 1) d.patch_pages) × (Within 1 (j % d.dimmers + 1) d.dimmers) × (entry_of d (j / d.dimmers + 1) (j % d.dimmers + 1) ≡ j)
unfolding entries_of entry_of
dimmer_of_lem d r j h =
    let n = d.dimmers in
    let pos : 0 < n = let l = r.dimmers in omega arith in
    let a : j / n < d.patch_pages = (div-lt_iff_lt-mul pos).1 (subst (λ (z : ℕ). j < z) (mul_comm n d.patch_pages) h) in
    let b : j % n < n = mod-lt j pos in
    let e : j / n + 1 - 1 ≡ j / n = omega arith in
    let f : j % n + 1 - 1 ≡ j % n = omega arith in
    (omega arith, omega arith, (λ i. e i * n + f i) ∙ div-add-mod' j n)

-- ---- equal slot by slot, equal as a whole
same_run : (s t : List ℕ) (a len n : ℕ) → take a s ≡ take a t → ((i : ℕ) → i < n → take len (drop (a + i * len) s) ≡ take len (drop (a + i * len) t))
    → take (a + n * len) s ≡ take (a + n * len) t
same_run s t a len zero e f =
    let z : a + 0 * len ≡ a = ap (λ (k : ℕ). a + k) (zero-mul len) ∙ add-zero a in
    subst (λ (k : ℕ). take k s ≡ take k t) (sym z) e
same_run s t a len (suc n) e f =
    let q : a + suc n * len ≡ a + n * len + len =
    ap (λ (k : ℕ). a + k * len) (sym (add-one n)) ∙ ap (λ (k : ℕ). a + k) (product_next n len) ∙ sym (add_assoc a (n * len) len)
    in
    let ih : take (a + n * len) s ≡ take (a + n * len) t = same_run s t a len n e (λ i h. f i (omega arith)) in
    subst (λ (k : ℕ). take k s ≡ take k t) (sym q)
    (take-add (a + n * len) len s
    ∙ (λ i. ih i ++ f n (omega arith) i)
    ∙ sym (take-add (a + n * len) len t))

module _ (d : Desk) (s t : List ℕ) (rs : Ready d s) (rt : Ready d t) (bs : Bytes s) (bt : Bytes t) where
  same_slot : (i : ℕ) → i < slots_of d → slot_view d s i ≡ slot_view d t i → slot_at d s i ≡ slot_at d t i
  unfolding slot_view memory_at
  same_slot i h e =
      by_bool (is_used (head_at d s i))
      (λ u.
      by_bool (is_used (head_at d t i))
      (λ v.
      let m : kept (memory_at d s i) ≡ kept (memory_at d t i) =
      sym (cond-true (is_used (head_at d s i)) (kept (memory_at d s i)) absent u) ∙ e ∙ cond-true (is_used (head_at d t i)) (kept (memory_at d t i)) absent v
      in
      let w : memory_at d s i ≡ memory_at d t i = kept_inj m in
      slot_encodes d s rs.long bs i h
      ∙ (λ j. encode_head (w j).head ++ (w j).levels)
      ∙ sym (slot_encodes d t rt.long bt i h))
      (λ v.
      absurd
      (kept-absent
      (sym (cond-true (is_used (head_at d s i)) (kept (memory_at d s i)) absent u) ∙ e ∙ cond-false (is_used (head_at d t i)) (kept (memory_at d t i)) absent v))))
      (λ u.
      by_bool (is_used (head_at d t i))
      (λ v.
      absurd
      (kept-absent
      (sym (cond-true (is_used (head_at d t i)) (kept (memory_at d t i)) absent v) ∙ sym e ∙ cond-false (is_used (head_at d s i)) (kept (memory_at d s i)) absent u)))
      (λ v. unused_zero d s rs.form i h rs.long u ∙ sym (unused_zero d t rt.form i h rt.long v)))

  pub nothing_lost : ((i : ℕ) → i < slots_of d → slot_view d s i ≡ slot_view d t i)
      → ((page dimmer : ℕ) → Within 1 page d.patch_pages → Within 1 dimmer d.dimmers → patched_to d s page dimmer ≡ patched_to d t page dimmer)
      → take (store_length d) s ≡ take (store_length d) t
  unfolding store_length patch_start slot_at entry_at patched_to
  nothing_lost f g =
      same_run s t (slots_of d * slot_length d) entry_length_of (entries_of d)
      (subst (λ (k : ℕ). take k s ≡ take k t) (zero_front (slots_of d * slot_length d))
      (same_run s t 0 (slot_length d) (slots_of d) refl
      (λ i h.
      subst (λ (k : ℕ). take (slot_length d) (drop k s) ≡ take (slot_length d) (drop k t)) (sym (zero_front (i * slot_length d))) (same_slot i h (f i h)))))
      (λ j h.
      let w = dimmer_of_lem d rs.range j h in
      let p : decode_patch (entry_at d s j) ≡ decode_patch (entry_at d t j) =
      subst (λ (k : ℕ). decode_patch (entry_at d s k) ≡ decode_patch (entry_at d t k)) w.2 (g (j / d.dimmers + 1) (j % d.dimmers + 1) w.0 w.1)
      in
      entry_encodes d s rs.long bs j h ∙ ap encode_patch p ∙ sym (entry_encodes d t rt.long bt j h))
    where
      zero_front : (k : ℕ) → 0 + k ≡ k
      zero_front k = omega arith
