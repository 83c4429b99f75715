-- A walk over a store: the listed slots are those of the ordered list, each is found under its own name, and the readers decode it.
-- Assumes nothing.
use Rattle.std.specs.Prelude.{Ok}
use mathlib.Core.Path.{◌≡◌, refl, sym, ap, ◌∙◌, subst}
use mathlib.Core.Bool.{true}
use mathlib.Core.List.{List, [], ◌∷◌, map}
use mathlib.Core.Logic.{inl, inr}
use Prim.Native.Nat.{ℕ, suc, ◌+◌, ◌-◌, ◌*◌, ◌<◌}
use native.Mathlib.Omega.{arith}
use lib.ListN.{take, drop}
use borrow.Author.Tests.{lt-ltb}
use Rattle.cells.specs.Search.{Found, at, nowhere}
use Rattle.cells.proofs.Split.{cond-true}
use Rattle.store_desk.specs.declared.Desk.{Desk}
use Rattle.store_desk.specs.declared.Key.{Key}
use Rattle.store_desk.specs.declared.Kind.{Kind}
use Rattle.store_desk.specs.Name.{Name, less_key, KeyFits, has_slot}
use Rattle.store_desk.specs.Refusal.{replied}
use Rattle.store_desk.specs.Size.{head_length, levels_length, slot_length, slots_of}
use Rattle.store_head.specs.Layout.{head_values}
use Rattle.store.specs.Slots.{head_at, key_of, find}
use Rattle.store.specs.View.{Memory, kept, memory_at, memory_of}
use Rattle.store.specs.Order.{in_order}
use Rattle.store.specs.Good.{Ready}
use Rattle.store.proofs.Find.{kept_inj, kept-absent}
use Rattle.store.proofs.Start.{absent_at, kept_memory}
use Rattle.store.proofs.Ordered.{word_less, Among, Rising, key_fits}
use Rattle.store_code.proofs.Laws.{levels_is}
use Rattle.save.specs.Listed.{slot_numbers}
use Rattle.show.specs.Calls.{placed_at}
use Rattle.show.proofs.Laws.{fits_lent}
use Rattle.show_read.specs.Calls.{slot_named, head_in, head_by, head_call, levels_by, levels_call}
use Rattle.show_read.proofs.Laws.{there_slot, head_by_lem, levels_by_lem}
use Rattle.theorem_same_show.proofs.Keys.{Here, here_slot, slot_key, order_rising}
use Rattle.theorem_same_show.proofs.Loaded.{own-kept, in_order_here, found_in_order}
use Rattle.theorem_called.specs.Walked.{In, Ascending, named, key_in, Told, WalkedShow}

-- ---- the numbers of slots

in_numbers : (xs : List ℕ) (n : ℕ) → In n (map suc xs) → (x : ℕ) × (n ≡ suc x) × Among x xs
in_numbers [] n h = absurd h
in_numbers (y ∷ ys) n (inl e) = (y, e, inl refl)
in_numbers (y ∷ ys) n (inr h) = let w = in_numbers ys n h in (w.0, w.1, inr w.2)

number_in : (xs : List ℕ) (x : ℕ) → Among x xs → In (suc x) (map suc xs)
number_in [] x h = absurd h
number_in (y ∷ ys) x (inl e) = inl (ap suc e)
number_in (y ∷ ys) x (inr h) = inr (number_in ys x h)

before_suc : (x : ℕ) → suc x - 1 ≡ x
before_suc x = omega arith

module _ (d : Desk) (s : List ℕ) (r : Ready d s) where
  slot_named_lem : (x : ℕ) → x < slots_of d → slot_named d (suc x) ≡ at x
  unfolding slot_named
  slot_named_lem x h = cond-true (has_slot d (suc x)) _ _ (there_slot d (suc x) (omega arith, omega arith)) ∙ ap at (before_suc x)

  head_told : (x : ℕ) → x < slots_of d → head_call d s (suc x) ≡ replied (head_values (head_at d s x))
  unfolding head_by head_in
  head_told x h =
      sym (head_by_lem d s (suc x) (Ok _) (fits_lent d s (record { range = r.range; long = r.long }))) ∙ ap (head_in d s) (slot_named_lem x h)

  levels_told : (x : ℕ) → x < slots_of d → levels_call d s (suc x) ≡ replied ((x * slot_length d + head_length) ∷ [])
  unfolding levels_by placed_at
  levels_told x h =
      sym (levels_by_lem d s (suc x) (Ok _) (fits_lent d s (record { range = r.range; long = r.long }))) ∙ ap (placed_at d) (slot_named_lem x h)

  levels_there : (x : ℕ) → take (levels_length d) (drop (x * slot_length d + head_length) s) ≡ (memory_at d s x).levels
  unfolding memory_at slot_length
  levels_there x =
      ap (λ (n : ℕ). take n (drop (x * slot_length d + head_length) s))
      (let e : levels_length d ≡ x * slot_length d + slot_length d - (x * slot_length d + head_length) = omega arith in e)
      ∙ levels_is d s x refl refl

  kept_at : (n : Name) (m : Memory) → memory_of d s n ≡ kept m → (i : ℕ) × (find d s n ≡ at i)
  kept_at n m e = cases (find d s n) refl
    where
      cases : (a : Found) → find d s n ≡ a → (i : ℕ) × (find d s n ≡ at i)
      cases (at i) f = (i, f)
      cases nowhere f = absurd (kept-absent (sym e ∙ absent_at d s n f))

  module _ (k : Kind) where
    told : (x : ℕ) → Among x (in_order d s k) → Told d s k (suc x) (memory_at d s x)
    unfolding memory_at
    told x h =
        let here = in_order_here d s r k x h in
        record {
          held = own-kept d s r k x here;
          values = head_told x (here_slot here);
          place = x * slot_length d + head_length;
          begins = levels_told x (here_slot here);
          levels = levels_there x;
        }

    listed : (n : ℕ) → In n (slot_numbers d s k) → (m : Memory) × Told d s k n m
    unfolding slot_numbers
    listed n h =
        let w = in_numbers (in_order d s k) n h in
        (memory_at d s w.0, subst (λ (j : ℕ). Told d s k j (memory_at d s w.0)) (sym w.1) (told w.0 w.2))

    all : (key : Key) (m : Memory) → memory_of d s (named k key) ≡ kept m → (n : ℕ) × In n (slot_numbers d s k) × Told d s k n m
    unfolding slot_numbers
    all key m e =
        let f = kept_at (named k key) m e in
        let h = found_in_order d s r k (named k key) refl f.0 f.1 in
        let q : memory_at d s f.0 ≡ m = kept_inj (sym (kept_memory d s (named k key) f.0 f.1) ∙ e) in
        (suc f.0, number_in (in_order d s k) f.0 h, subst (Told d s k (suc f.0)) q (told f.0 h))

    fits : (x : ℕ) → Here d s k x → KeyFits (key_of (head_at d s x))
    fits x h = key_fits d s r x (here_slot h) h.used

    rises : (xs : List ℕ) → ((x : ℕ) → Among x xs → Here d s k x) → Rising (slot_key d s) xs
        → Ascending (λ a b. less_key (key_in d s a) (key_in d s b)) (map suc xs)
    rises [] f q = tt
    rises (x ∷ xs) f q = (
      λ y h.
          let w = in_numbers xs y h in
          let z = w.0 in
          let l = q.0 z w.2 in
          subst (λ (j : ℕ). less_key (key_in d s (suc x)) (key_in d s j) ≡ true) (sym w.1)
          (ap (λ (a : ℕ). less_key (key_of (head_at d s a)) (key_in d s (suc z))) (before_suc x)
          ∙ ap (λ (b : ℕ). less_key (key_of (head_at d s x)) (key_of (head_at d s b))) (before_suc z)
          ∙ word_less (key_of (head_at d s x)) (key_of (head_at d s z)) (fits x (f x (inl refl))) (fits z (f z (inr w.2)))
          ∙ lt-ltb _ _ l),
      rises xs (λ z h. f z (inr h)) q.1,
    )

    order : Ascending (λ a b. less_key (key_in d s a) (key_in d s b)) (slot_numbers d s k)
    unfolding slot_numbers
    order = rises (in_order d s k) (in_order_here d s r k) (order_rising d s r k)

    pub walked_show : WalkedShow d s k
    walked_show = record { listed = listed; all = all; order = order }
