-- Patching and clearing the patch: the view, good form, and that no memory changes. By the laws of entries and of parts.
-- Assumes nothing.
use mathlib.Core.Path.{◌≡◌, refl, sym, ap, ◌∙◌, subst}
use mathlib.Core.Bool.{Bool, true, false, cond, ◌&&◌, ◌||◌}
use mathlib.Core.List.{List, ◌∷◌}
use mathlib.Core.Logic.{◌⊎◌, inl, inr, ⊎_elim}
use Prim.Native.Nat.{ℕ, zero, suc, ◌+◌, ◌-◌, ◌*◌, ◌<◌, ◌≤◌}
use native.Mathlib.Nat.{mul_assoc, mul_comm}
use native.Mathlib.Omega.{arith}
use lib.Dec.{eqb, leb}
use lib.ListN.{length, take, drop, replicate, length-replicate}
use borrow.Author.Tests.{eqb-true, eq-eqb, ne_eqb, le-leb}
use Rattle.cells.specs.Put.{put}
use Rattle.cells.specs.Search.{Found, at, nowhere}
use Rattle.cells.proofs.Arith.{apart}
use Rattle.cells.proofs.Pad.{drop-replicate}
use Rattle.cells.proofs.Put.{length-put, part_before, part_after, part_inside, drop_after}
use Rattle.cells.proofs.Search.{first_same}
use Rattle.cells.proofs.Split.{by_bool, by_eq, by_lt, cond-true, cond-false, clash, and_true, and_left, and_right}
use Rattle.store_desk.specs.declared.Desk.{Desk}
use Rattle.store_desk.specs.Size.{Within, InRange, entry_length_of, slot_length, slots_of, patch_start, entries_of, store_length}
use Rattle.store_desk.specs.Name.{Name, first_slot, slot_count, entry_of}
use Rattle.store_desk.proofs.Name.{kind_end, entry_inside, entry_same}
use Rattle.store_head.specs.Layout.{encode_patch, decode_patch}
use Rattle.store_head.specs.Fits.{PatchFits}
use Rattle.store_head.proofs.Laws.{decode_encode_patch, length-encode_patch, decode_patch_zeros}
use Rattle.store.specs.Slots.{slot_at, entry_at, is_used, holds_at, find, on_found}
use Rattle.store.specs.View.{absent, kept, memory_at, memory_of, patched_to}
use Rattle.store.specs.Change.{patch_entry, patched, every_page, on_page, patch_page_length, cleared_patch}
use Rattle.store.specs.Form.{name_at, patch_fits, entry_fits}
use Rattle.store.specs.Memories.{memory_in}
use Rattle.store.specs.Good.{Ready}
use Rattle.store.proofs.Places.{slot_end, entry_put_length, entry_same as put-entry-same, entry_other, patch_slots, entry_tail}
use Rattle.store.proofs.Find.{head_same, holds_same, memory_in_lem}
use Rattle.store.proofs.Form.{fits_same, name_same, found_self, single_of}
use Rattle.store.proofs.Start.{found_used}

-- ---- stores with the same slots
module _ (d : Desk) (s t : List ℕ) (same : (j : ℕ) → j < slots_of d → slot_at d t j ≡ slot_at d s j) where
  pub same_find : (m : Name) → find d t m ≡ find d s m
  unfolding find
  same_find m =
      first_same (holds_at d t m.key) (holds_at d s m.key) (slot_count d m.kind) (first_slot d m.kind)
      (λ j h l. let e = kind_end d m.kind in holds_same d t s m.key j (same j (omega arith)))

  -- the same memories
  pub same_view : (m : Name) → memory_of d t m ≡ memory_of d s m
  unfolding memory_of on_found
  same_view m = ap (λ (a : Found). on_found a (λ j. kept (memory_at d t j)) absent) (same_find m) ∙ cases (find d s m) refl
    where
      cases : (a : Found) → find d s m ≡ a → on_found a (λ j. kept (memory_at d t j)) absent ≡ on_found a (λ j. kept (memory_at d s j)) absent
      cases nowhere f = refl
      cases (at j) f = ap kept (memory_in_lem d t j ∙ ap memory_in (same j (found_used d s m j f).0) ∙ sym (memory_in_lem d s j))

  -- good form, where the entries are in form
  pub same_good : Ready d s → length t ≡ length s → ((j : ℕ) → j < entries_of d → entry_fits d t j ≡ true) → Ready d t
  same_good r l f =
      record {
        range = r.range;
        long = subst (λ (z : ℕ). store_length d ≤ z) (sym l) r.long;
        form =
            record {
              slots = λ j h. fits_same d t s j (same j h) ∙ r.form.slots j h;
              single =
                  single_of d t
                  (λ j h u.
                  ap (find d t) (name_same d t s j (same j h)) ∙ same_find (name_at d s j)
                  ∙ found_self d s r.form j h (ap is_used (sym (head_same d t s j (same j h))) ∙ u));
              entries = f;
            };
      }

-- entries that stay are patched as before
pub same_patch : (d : Desk) (s t : List ℕ) → ((j : ℕ) → entry_at d t j ≡ entry_at d s j) → (page dimmer : ℕ) → patched_to d t page dimmer ≡ patched_to d s page dimmer
unfolding patched_to
same_patch d s t f page dimmer = ap decode_patch (f (entry_of d page dimmer))

-- ---- a dimmer patched
entry_fits_lem : (d : Desk) (s t : List ℕ) (j : ℕ) → entry_at d t j ≡ entry_at d s j → entry_fits d t j ≡ entry_fits d s j
unfolding entry_fits
entry_fits_lem d s t j e = ap (λ (x : List ℕ). patch_fits d (decode_patch x)) e

patch_fits_lem : (d : Desk) → InRange d → (channel level : ℕ) → Within 1 channel d.channels → level < 256 → PatchFits (patch_entry channel level)
patch_fits_lem d r c l hc hl = let m = r.channels in record { channel = omega arith; level = hl; rest = omega arith }

patching_fits : (d : Desk) (channel level : ℕ) → Within 1 channel d.channels → patch_fits d (patch_entry channel level) ≡ true
unfolding patch_fits
patching_fits d c l h =
    let f : eqb c 0 ≡ false = ne_eqb c 0 (λ q. omega arith) in
    cond-false (eqb c 0) (eqb l 0) (leb c d.channels) f ∙ le-leb c d.channels h.1

module _ (d : Desk) (s : List ℕ) (long : store_length d ≤ length s) (range : InRange d) (page dimmer channel level : ℕ)
    (hp : Within 1 page d.patch_pages) (hd : Within 1 dimmer d.dimmers) (hc : Within 1 channel d.channels) (hl : level < 256) where
  hi : entry_of d page dimmer < entries_of d
  hi = entry_inside d page dimmer hp hd

  hx : length (encode_patch (patch_entry channel level)) ≡ entry_length_of
  hx = length-encode_patch (patch_entry channel level)

  entry_there : decode_patch (entry_at d (patched d s page dimmer channel level) (entry_of d page dimmer)) ≡ patch_entry channel level
  unfolding patched
  entry_there =
      ap decode_patch (put-entry-same d s long (entry_of d page dimmer) hi (encode_patch (patch_entry channel level)) hx)
      ∙ decode_encode_patch (patch_entry channel level) (patch_fits_lem d range channel level hc hl)

  entry_else : (j : ℕ) → (entry_of d page dimmer ≡ j → ⊥) → entry_at d (patched d s page dimmer channel level) j ≡ entry_at d s j
  unfolding patched
  entry_else j ne = entry_other d s long (entry_of d page dimmer) hi (encode_patch (patch_entry channel level)) hx j ne

  pub patch_view : (page₂ dimmer₂ : ℕ) → Within 1 page₂ d.patch_pages → Within 1 dimmer₂ d.dimmers
      → patched_to d (patched d s page dimmer channel level) page₂ dimmer₂
      ≡ cond (eqb page page₂ && eqb dimmer dimmer₂) (patch_entry channel level) (patched_to d s page₂ dimmer₂)
  unfolding patched_to
  patch_view page₂ dimmer₂ hp₂ hd₂ =
      let b = eqb page page₂ && eqb dimmer dimmer₂ in
      let old = decode_patch (entry_at d s (entry_of d page₂ dimmer₂)) in
      by_bool b
      (λ t.
      let p : page ≡ page₂ = eqb-true page page₂ (and_left (eqb page page₂) (eqb dimmer dimmer₂) t) in
      let q : dimmer ≡ dimmer₂ = eqb-true dimmer dimmer₂ (and_right (eqb page page₂) (eqb dimmer dimmer₂) t) in
      let e : entry_of d page₂ dimmer₂ ≡ entry_of d page dimmer = λ z. entry_of d (sym p z) (sym q z) in
      ap (λ (j : ℕ). decode_patch (entry_at d (patched d s page dimmer channel level) j)) e
      ∙ entry_there
      ∙ sym (cond-true b (patch_entry channel level) old t))
      (λ f.
      let ne : entry_of d page dimmer ≡ entry_of d page₂ dimmer₂ → ⊥ =
      λ e.
      let w = entry_same d page dimmer page₂ dimmer₂ hp.0 hp₂.0 hd hd₂ e in
      clash (and_true (eqb page page₂) (eqb dimmer dimmer₂) (eq-eqb page page₂ w.0) (eq-eqb dimmer dimmer₂ w.1)) f
      in
      ap decode_patch (entry_else (entry_of d page₂ dimmer₂) ne) ∙ sym (cond-false b (patch_entry channel level) old f))

  same_patched : (j : ℕ) → j < slots_of d → slot_at d (patched d s page dimmer channel level) j ≡ slot_at d s j
  unfolding patched
  same_patched j h = patch_slots d s long (entry_of d page dimmer) hi (encode_patch (patch_entry channel level)) hx j h

  pub patch_memory : (m : Name) → memory_of d (patched d s page dimmer channel level) m ≡ memory_of d s m
  patch_memory m = same_view d s (patched d s page dimmer channel level) same_patched m

  pub patch_find : (m : Name) → find d (patched d s page dimmer channel level) m ≡ find d s m
  patch_find m = same_find d s (patched d s page dimmer channel level) same_patched m

  pub patch_tail : drop (store_length d) (patched d s page dimmer channel level) ≡ drop (store_length d) s
  unfolding patched
  patch_tail = entry_tail d s long (entry_of d page dimmer) hi (encode_patch (patch_entry channel level)) hx

  pub patch_length : length (patched d s page dimmer channel level) ≡ length s
  unfolding patched
  patch_length = entry_put_length d s long (entry_of d page dimmer) hi (encode_patch (patch_entry channel level)) hx

  pub patch_good : Ready d s → Ready d (patched d s page dimmer channel level)
  unfolding entry_fits
  patch_good r =
      same_good d s (patched d s page dimmer channel level) same_patched r patch_length
      (λ j h.
      by_eq (entry_of d page dimmer) j
      (λ q.
      subst (λ (z : ℕ). entry_fits d (patched d s page dimmer channel level) z ≡ true) q
      (ap (patch_fits d) entry_there ∙ patching_fits d channel level hc))
      (λ ne. entry_fits_lem d s (patched d s page dimmer channel level) j (entry_else j ne) ∙ r.form.entries j h))

-- ---- the patch cleared: a run of entries becomes zero
take_zeros : (n m : ℕ) → n ≤ m → take n (replicate m (zero)) ≡ replicate n 0
take_zeros zero m h = refl
take_zeros (suc n) zero h = absurd (omega arith)
take_zeros (suc n) (suc m) h = ap (λ (xs : List ℕ). 0 ∷ xs) (take_zeros n m (omega arith))

pub part_zeros : (n b m : ℕ) → b + n ≤ m → take n (drop b (replicate m (zero))) ≡ replicate n 0
part_zeros n b m h = ap (take n) (drop-replicate b m) ∙ take_zeros n (m - b) (omega arith)

module _ (d : Desk) (s : List ℕ) (long : store_length d ≤ length s) (a n : ℕ) (h : a + n ≤ entries_of d) where
  run_end : patch_start d + a * entry_length_of + n * entry_length_of ≤ store_length d
  unfolding store_length
  run_end = omega arith

  zeros_length : length (replicate (n * entry_length_of) (zero)) ≡ n * entry_length_of
  zeros_length = length-replicate (n * entry_length_of) (zero)

  run_length : length (put s (patch_start d + a * entry_length_of) (replicate (n * entry_length_of) 0)) ≡ length s
  run_length =
      let z = zeros_length in
      let e = run_end in
      length-put s (patch_start d + a * entry_length_of) (replicate (n * entry_length_of) 0) (omega arith)

  run_tail : drop (store_length d) (put s (patch_start d + a * entry_length_of) (replicate (n * entry_length_of) 0)) ≡ drop (store_length d) s
  run_tail =
      let z = zeros_length in
      let e = run_end in
      drop_after s (patch_start d + a * entry_length_of) (replicate (n * entry_length_of) 0) (store_length d) (omega arith) (omega arith)

  run_slots : (j : ℕ) → j < slots_of d → slot_at d (put s (patch_start d + a * entry_length_of) (replicate (n * entry_length_of) 0)) j ≡ slot_at d s j
  unfolding slot_at
  run_slots j g =
      let v = slot_end d j g in
      let e = run_end in
      part_before s (patch_start d + a * entry_length_of) (replicate (n * entry_length_of) 0) (j * slot_length d) (slot_length d) (omega arith) (omega arith)

  run_inside : (j : ℕ) → a ≤ j → j < a + n → entry_at d (put s (patch_start d + a * entry_length_of) (replicate (n * entry_length_of) 0)) j ≡ replicate entry_length_of 0
  unfolding entry_at
  run_inside j l g =
      let z = zeros_length in
      let e = run_end in
      let b : ℕ = (j - a) * entry_length_of in
      let q : patch_start d + j * entry_length_of ≡ patch_start d + a * entry_length_of + b = omega arith in
      ap (λ (k : ℕ). take entry_length_of (drop k (put s (patch_start d + a * entry_length_of) (replicate (n * entry_length_of) 0)))) q
      ∙ part_inside s (patch_start d + a * entry_length_of) (replicate (n * entry_length_of) 0) b entry_length_of (omega arith) (omega arith)
      ∙ part_zeros entry_length_of b (n * entry_length_of) (omega arith)

  run_before : (j : ℕ) → j < a → entry_at d (put s (patch_start d + a * entry_length_of) (replicate (n * entry_length_of) 0)) j ≡ entry_at d s j
  unfolding entry_at
  run_before j l =
      let e = run_end in
      part_before s (patch_start d + a * entry_length_of) (replicate (n * entry_length_of) 0) (patch_start d + j * entry_length_of) entry_length_of (omega arith) (omega arith)

  run_past : (j : ℕ) → a + n ≤ j → entry_at d (put s (patch_start d + a * entry_length_of) (replicate (n * entry_length_of) 0)) j ≡ entry_at d s j
  unfolding entry_at
  run_past j l =
      let z = zeros_length in
      let e = run_end in
      part_after s (patch_start d + a * entry_length_of) (replicate (n * entry_length_of) 0) (patch_start d + j * entry_length_of) entry_length_of (omega arith) (omega arith)

-- CLEAR PATCH as such a run: of all entries, or of one page's
clear_all : (d : Desk) (s : List ℕ) → cleared_patch d s every_page ≡ put s (patch_start d + 0 * entry_length_of) (replicate (entries_of d * entry_length_of) 0)
unfolding cleared_patch
clear_all d s = let e : patch_start d ≡ patch_start d + 0 * entry_length_of = omega arith in ap (λ (a : ℕ). put s a (replicate (entries_of d * entry_length_of) 0)) e

clear_page : (d : Desk) (s : List ℕ) (p : ℕ) → 1 ≤ p
    → cleared_patch d s p ≡ put s (patch_start d + (p - 1) * d.dimmers * entry_length_of) (replicate (d.dimmers * entry_length_of) 0)
unfolding cleared_patch patch_page_length
clear_page d s p h =
    cond-false (eqb p every_page) _ _ (ne_eqb p 0 (λ q. omega arith))
    ∙ ap (λ (a : ℕ). put s (patch_start d + a) (replicate (d.dimmers * entry_length_of) 0)) (sym (mul_assoc (p - 1) d.dimmers entry_length_of))

page_end : (d : Desk) (p : ℕ) → Within 1 p d.patch_pages → (p - 1) * d.dimmers + d.dimmers ≤ entries_of d
unfolding entries_of
page_end d p h =
    let l : p - 1 < d.patch_pages = omega arith in
    subst (λ (z : ℕ). (p - 1) * d.dimmers + d.dimmers ≤ z) (mul_comm d.patch_pages d.dimmers) (apart d.dimmers l)

pub zero_entry : (d : Desk) (t : List ℕ) (j : ℕ) → entry_at d t j ≡ replicate entry_length_of 0 → decode_patch (entry_at d t j) ≡ patch_entry 0 0
zero_entry d t j e = ap decode_patch e ∙ decode_patch_zeros entry_length_of

pub zero_entry_fits : (d : Desk) (t : List ℕ) (j : ℕ) → entry_at d t j ≡ replicate entry_length_of 0 → entry_fits d t j ≡ true
unfolding entry_fits patch_fits
zero_entry_fits d t j e = ap (patch_fits d) (zero_entry d t j e)

-- what a clearing of the patch leaves: a page's number at most the desk's, or 0 for every page
record Wiped (d : Desk) (s : List ℕ) (p : ℕ) (t : List ℕ) : Type 0 where
  long : length t ≡ length s
  tail : drop (store_length d) t ≡ drop (store_length d) s
  slots : (j : ℕ) → j < slots_of d → slot_at d t j ≡ slot_at d s j
  either : (j : ℕ) → j < entries_of d → (entry_at d t j ≡ replicate entry_length_of 0) ⊎ (entry_at d t j ≡ entry_at d s j)
  view : (page dimmer : ℕ) → Within 1 page d.patch_pages → Within 1 dimmer d.dimmers
      → patched_to d t page dimmer ≡ cond (on_page p page) (patch_entry 0 0) (patched_to d s page dimmer)

wiped_all : (d : Desk) (s : List ℕ) → store_length d ≤ length s → Wiped d s every_page (cleared_patch d s every_page)
unfolding patched_to
wiped_all d s long =
    let h : 0 + entries_of d ≤ entries_of d = omega arith in
    subst (Wiped d s every_page) (sym (clear_all d s))
    (record {
      long = run_length d s long 0 (entries_of d) h;
      tail = run_tail d s long 0 (entries_of d) h;
      slots = run_slots d s long 0 (entries_of d) h;
      either = λ j l. inl (run_inside d s long 0 (entries_of d) h j (omega arith) (omega arith));
      view =
          λ page dimmer hp hd.
          let l = entry_inside d page dimmer hp hd in
          zero_entry d _ (entry_of d page dimmer) (run_inside d s long 0 (entries_of d) h (entry_of d page dimmer) (omega arith) (omega arith));
    })

wiped_page : (d : Desk) (s : List ℕ) → store_length d ≤ length s → (p : ℕ) → Within 1 p d.patch_pages → Wiped d s p (cleared_patch d s p)
unfolding patched_to entry_of
wiped_page d s long p hp =
    let n = d.dimmers in
    let a = (p - 1) * n in
    let h = page_end d p hp in
    subst (Wiped d s p) (sym (clear_page d s p hp.0))
    (record {
      long = run_length d s long a n h;
      tail = run_tail d s long a n h;
      slots = run_slots d s long a n h;
      either =
          λ j l.
          by_lt j a
          (λ b. inr (run_before d s long a n h j b))
          (λ b. by_lt j (a + n) (λ c. inl (run_inside d s long a n h j b c)) (λ c. inr (run_past d s long a n h j c)));
      view =
          λ page dimmer hq hd.
          let e : ℕ = (page - 1) * n + (dimmer - 1) in
          let z : eqb p 0 ≡ false = ne_eqb p 0 (λ q. omega arith) in
          let old = decode_patch (entry_at d s e) in
          by_eq p page
          (λ q.
          let b : a ≡ (page - 1) * n = ap (λ (k : ℕ). (k - 1) * n) q in
          zero_entry d _ e (run_inside d s long a n h e (omega arith) (omega arith))
          ∙ sym (cond-true (on_page p page) (patch_entry 0 0) old (ap (λ (c : Bool). c || eqb p page) z ∙ eq-eqb p page q)))
          (λ ne.
          let f : on_page p page ≡ false = ap (λ (c : Bool). c || eqb p page) z ∙ ne_eqb p page ne in
          by_lt page p
          (λ l.
          let c : page - 1 < p - 1 = omega arith in
          let w : (page - 1) * n + n ≤ a = apart n c in
          ap decode_patch (run_before d s long a n h e (omega arith)) ∙ sym (cond-false (on_page p page) (patch_entry 0 0) old f))
          (λ l.
          let c : p - 1 < page - 1 = omega arith in
          let w : a + n ≤ (page - 1) * n = apart n c in
          ap decode_patch (run_past d s long a n h e (omega arith)) ∙ sym (cond-false (on_page p page) (patch_entry 0 0) old f)));
    })

wiped : (d : Desk) (s : List ℕ) → store_length d ≤ length s → (p : ℕ) → p ≤ d.patch_pages → Wiped d s p (cleared_patch d s p)
wiped d s long p h =
    by_eq p every_page
    (λ q. subst (λ (z : ℕ). Wiped d s z (cleared_patch d s z)) (sym q) (wiped_all d s long))
    (λ ne. wiped_page d s long p (let l : Within 1 p d.patch_pages = omega arith in l))

module _ (d : Desk) (s : List ℕ) (long : store_length d ≤ length s) (p : ℕ) (h : p ≤ d.patch_pages) where
  pub clear_patch_view : (page dimmer : ℕ) → Within 1 page d.patch_pages → Within 1 dimmer d.dimmers
      → patched_to d (cleared_patch d s p) page dimmer ≡ cond (on_page p page) (patch_entry 0 0) (patched_to d s page dimmer)
  clear_patch_view page dimmer hp hd = (wiped d s long p h).view page dimmer hp hd

  pub clear_patch_memory : (m : Name) → memory_of d (cleared_patch d s p) m ≡ memory_of d s m
  clear_patch_memory m = same_view d s (cleared_patch d s p) (wiped d s long p h).slots m

  pub clear_patch_length : length (cleared_patch d s p) ≡ length s
  clear_patch_length = (wiped d s long p h).long

  pub clear_patch_tail : drop (store_length d) (cleared_patch d s p) ≡ drop (store_length d) s
  clear_patch_tail = (wiped d s long p h).tail

  pub clear_patch_good : Ready d s → Ready d (cleared_patch d s p)
  clear_patch_good r =
      let w = wiped d s long p h in
      same_good d s (cleared_patch d s p) w.slots r w.long
      (λ j l.
      ⊎_elim
      (λ z. zero_entry_fits d (cleared_patch d s p) j z)
      (λ e. entry_fits_lem d s (cleared_patch d s p) j e ∙ r.form.entries j l)
      (w.either j l))
