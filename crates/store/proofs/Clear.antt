-- Clearing: which slots become zero, the view, and good form; one equation over all names. By induction on the slots that are passed.
-- Assumes nothing.
use mathlib.Core.Path.{◌≡◌, refl, sym, ap, ◌∙◌, subst}
use mathlib.Core.Bool.{Bool, true, false, cond, ◌&&◌}
use mathlib.Core.List.{List}
use Prim.Native.Nat.{ℕ, zero, suc, ◌+◌, ◌<◌, ◌≤◌}
use native.Mathlib.Omega.{arith}
use lib.ListN.{length, drop, replicate, length-replicate}
use Rattle.cells.specs.Search.{Found, at, nowhere}
use Rattle.cells.proofs.Search.{first_same, none_is}
use Rattle.cells.proofs.Split.{by_bool, by_eq, by_lt, by_test, cond-true, cond-false, cond_same, clash, and_false_left, and_false_right}
use Rattle.store_desk.specs.declared.Desk.{Desk}
use Rattle.store_desk.specs.declared.Kind.{Kind}
use Rattle.store_desk.specs.Size.{slot_length, slots_of, store_length}
use Rattle.store_desk.specs.Name.{Name, first_slot, slot_count, slots_end, kind_at, eq_kind}
use Rattle.store_desk.proofs.Name.{eq_kind_lem, eq_kind-true, kind_of, kind_at_lem, kind_end}
use Rattle.store_head.specs.declared.Head.{Head}
use Rattle.store_head.specs.Layout.{decode_head, decode_patch}
use Rattle.store_head.proofs.Laws.{decode_zeros}
use Rattle.store.specs.Slots.{slot_at, put_slot, entry_at, head_at, is_used, holds_at, find, on_found}
use Rattle.store.specs.View.{absent, kept, memory_at, memory_of}
use Rattle.store.specs.Change.{on_page, hits, hits_at, clear_from, cleared}
use Rattle.store.specs.Form.{is_zero, name_at, slot_fits, patch_fits, entry_fits}
use Rattle.store.specs.Memories.{memory_in}
use Rattle.store.specs.Good.{Ready}
use Rattle.store.proofs.Places.{slot_same, slot_other, put_length, slot_patch, slot_tail}
use Rattle.store.proofs.Find.{head_same, holds_same, holds_own, holds_unused, memory_in_lem}
use Rattle.store.proofs.Form.{is_zero_lem, fits_same, name_same, found_self, single_of}
use Rattle.store.proofs.Start.{found_used, absent_at}

abbrev pub zeros : Desk → List ℕ
zeros d = replicate (slot_length d) 0

-- a slot of zeros is unused, and in form
pub zero_unused : (d : Desk) (s : List ℕ) (i n : ℕ) → slot_at d s i ≡ replicate n 0 → is_used (head_at d s i) ≡ false
unfolding head_at
zero_unused d s i n e = ap (λ (x : List ℕ). is_used (decode_head x)) e ∙ ap is_used (decode_zeros n)

pub zero_fits : (d : Desk) (s : List ℕ) (i n : ℕ) → slot_at d s i ≡ replicate n 0 → slot_fits d s i ≡ true
unfolding slot_fits
zero_fits d s i n e =
    cond-false (is_used (head_at d s i)) _ (is_zero (slot_at d s i)) (zero_unused d s i n e) ∙ ap is_zero e ∙ is_zero_lem n

-- ---- the slots after it
hits_same : (d : Desk) (s t : List ℕ) (p i : ℕ) → slot_at d s i ≡ slot_at d t i → hits_at d s p i ≡ hits_at d t p i
unfolding hits_at
hits_same d s t p i e = ap (λ (h : Head). is_used h && on_page p h.page) (head_same d s t i e)

record Passed (d : Desk) (p n i : ℕ) (s t : List ℕ) : Type 0 where
  long : length t ≡ length s
  before : (j : ℕ) → j < i → slot_at d t j ≡ slot_at d s j
  past : (j : ℕ) → i + n ≤ j → slot_at d t j ≡ slot_at d s j
  within : (j : ℕ) → i ≤ j → j < i + n → slot_at d t j ≡ cond (hits_at d s p j) (zeros d) (slot_at d s j)
  patch : (j : ℕ) → entry_at d t j ≡ entry_at d s j
  tail : drop (store_length d) t ≡ drop (store_length d) s

step : Desk → ℕ → ℕ → List ℕ → List ℕ
step d p i s = cond (hits_at d s p i) (put_slot d s i (zeros d)) s

record Stepped (d : Desk) (p i : ℕ) (s t : List ℕ) : Type 0 where
  long : length t ≡ length s
  other : (j : ℕ) → (i ≡ j → ⊥) → slot_at d t j ≡ slot_at d s j
  there : slot_at d t i ≡ cond (hits_at d s p i) (zeros d) (slot_at d s i)
  patch : (j : ℕ) → entry_at d t j ≡ entry_at d s j
  tail : drop (store_length d) t ≡ drop (store_length d) s

step_is : (d : Desk) (p i : ℕ) (s : List ℕ) → store_length d ≤ length s → i < slots_of d → Stepped d p i s (step d p i s)
unfolding step
step_is d p i s long h =
    let e = length-replicate (slot_length d) (zero) in
    by_test (Stepped d p i s) (hits_at d s p i) (put_slot d s i (zeros d)) s
    (λ t.
    record {
      long = put_length d s long i h (zeros d) e;
      other = λ j ne. slot_other d s long i h (zeros d) e j ne;
      there = slot_same d s long i h (zeros d) e ∙ sym (cond-true (hits_at d s p i) (zeros d) (slot_at d s i) t);
      patch = λ j. slot_patch d s long i h (zeros d) e j;
      tail = slot_tail d s long i h (zeros d) e;
    })
    (λ f.
    record {
      long = refl;
      other = λ j ne. refl;
      there = sym (cond-false (hits_at d s p i) (zeros d) (slot_at d s i) f);
      patch = λ j. refl;
      tail = refl;
    })

passed : (d : Desk) (p n i : ℕ) (s : List ℕ) → store_length d ≤ length s → i + n ≤ slots_of d → Passed d p n i s (clear_from d p n i s)
unfolding clear_from step
passed d p zero i s long h =
    record {
      long = refl;
      before = λ j l. refl;
      past = λ j l. refl;
      within = λ j a b. absurd (omega arith);
      patch = λ j. refl;
      tail = refl;
    }
passed d p (suc n) i s long h =
    let t = step d p i s in
    let one = step_is d p i s long (omega arith) in
    let lt : length t ≡ length s = one.long in
    let rest = passed d p n (suc i) t (omega arith) (omega arith) in
    record {
      long = rest.long ∙ lt;
      before = λ j l. rest.before j (omega arith) ∙ one.other j (λ q. omega arith);
      past = λ j l. rest.past j (omega arith) ∙ one.other j (λ q. omega arith);
      within =
          λ j a b.
          by_eq i j
          (λ q.
          subst (λ (z : ℕ). slot_at d (clear_from d p n (suc i) t) z ≡ cond (hits_at d s p z) (zeros d) (slot_at d s z)) q
          (rest.before i (omega arith) ∙ one.there))
          (λ ne.
          let o : slot_at d t j ≡ slot_at d s j = one.other j ne in
          rest.within j (omega arith) (omega arith)
          ∙ ap (λ (b : Bool). cond b (zeros d) (slot_at d t j)) (hits_same d t s p j o)
          ∙ ap (λ (x : List ℕ). cond (hits_at d s p j) (zeros d) x) o);
      patch = λ j. rest.patch j ∙ one.patch j;
      tail = rest.tail ∙ one.tail;
    }

-- ---- by names: slot j is removed
unfoldable pub removes : Desk → List ℕ → Kind → ℕ → ℕ → Bool
removes d s k p j = is_used (head_at d s j) && hits k p (name_at d s j)

module _ (d : Desk) (s : List ℕ) (long : store_length d ≤ length s) (k : Kind) (p : ℕ) where
  all_passed : Passed d p (slot_count d k) (first_slot d k) s (cleared d s k p)
  unfolding cleared
  all_passed = passed d p (slot_count d k) (first_slot d k) s long (kind_end d k)

  pub clear_length : length (cleared d s k p) ≡ length s
  clear_length = all_passed.long

  -- the patch and the bytes past the needed length stay
  pub clear_patch : (j : ℕ) → entry_at d (cleared d s k p) j ≡ entry_at d s j
  clear_patch j = all_passed.patch j

  pub clear_tail : drop (store_length d) (cleared d s k p) ≡ drop (store_length d) s
  clear_tail = all_passed.tail

  other_kind : (j : ℕ) → (kind_at d j ≡ k → ⊥) → slot_at d (cleared d s k p) j ≡ slot_at d s j
  other_kind j ne =
      by_lt j (first_slot d k)
      (λ l. all_passed.before j l)
      (λ l. by_lt j (slots_end d k) (λ b. absurd (ne (kind_of d k j l b))) (λ b. all_passed.past j b))

  same_kind : (j : ℕ) → j < slots_of d → kind_at d j ≡ k → slot_at d (cleared d s k p) j ≡ cond (hits_at d s p j) (zeros d) (slot_at d s j)
  same_kind j h q =
      let w = kind_at_lem d j h in
      all_passed.within j (subst (λ (z : Kind). first_slot d z ≤ j) q w.0) (subst (λ (z : Kind). j < slots_end d z) q w.1)

  pub clear_slot : (j : ℕ) → j < slots_of d → slot_at d (cleared d s k p) j ≡ cond (removes d s k p j) (zeros d) (slot_at d s j)
  unfolding removes hits hits_at
  clear_slot j h =
      let u = is_used (head_at d s j) in
      let o = on_page p (head_at d s j).page in
      by_bool (eq_kind k (kind_at d j))
      (λ t.
      same_kind j h (sym (eq_kind_lem k (kind_at d j) t))
      ∙ ap (λ (b : Bool). cond (u && (b && o)) (zeros d) (slot_at d s j)) (sym t))
      (λ f.
      other_kind j (λ q. clash (eq_kind-true k (kind_at d j) (sym q)) f)
      ∙ sym (cond-false (u && (eq_kind k (kind_at d j) && o)) (zeros d) (slot_at d s j) (and_false_right u _ (and_false_left (eq_kind k (kind_at d j)) o f))))

  removed : (j : ℕ) → j < slots_of d → removes d s k p j ≡ true → slot_at d (cleared d s k p) j ≡ zeros d
  removed j h t = clear_slot j h ∙ cond-true (removes d s k p j) (zeros d) (slot_at d s j) t

  stays : (j : ℕ) → j < slots_of d → removes d s k p j ≡ false → slot_at d (cleared d s k p) j ≡ slot_at d s j
  stays j h f = clear_slot j h ∙ cond-false (removes d s k p j) (zeros d) (slot_at d s j) f

  -- ---- the view
  module _ (m : Name) where
    named : (j : ℕ) → first_slot d m.kind ≤ j → j < slots_end d m.kind → holds_at d s m.key j ≡ true → removes d s k p j ≡ hits k p m
    unfolding removes
    named j h l t =
        let own = holds_own d s m.key j t in
        let q : kind_at d j ≡ m.kind = kind_of d m.kind j h l in
        let n : name_at d s j ≡ m = λ i. record { kind = q i; key = own.1 i } in
        ap (λ (b : Bool). b && hits k p (name_at d s j)) own.0 ∙ ap (hits k p) n

    clear_holds : (j : ℕ) → first_slot d m.kind ≤ j → j < slots_end d m.kind
        → holds_at d (cleared d s k p) m.key j ≡ cond (hits k p m) false (holds_at d s m.key j)
    clear_holds j h l =
        let e = kind_end d m.kind in
        let hj : j < slots_of d = omega arith in
        let t = cleared d s k p in
        let gone : removes d s k p j ≡ true → holds_at d t m.key j ≡ false =
        λ y. holds_unused d t m.key j (zero_unused d t j (slot_length d) (removed j hj y))
        in
        let left : removes d s k p j ≡ false → holds_at d t m.key j ≡ holds_at d s m.key j =
        λ y. holds_same d t s m.key j (stays j hj y)
        in
        by_bool (holds_at d s m.key j)
        (λ y.
        let n = named j h l y in
        by_bool (hits k p m)
        (λ z. gone (n ∙ z) ∙ sym (cond-true (hits k p m) false (holds_at d s m.key j) z))
        (λ z. left (n ∙ z) ∙ sym (cond-false (hits k p m) false (holds_at d s m.key j) z)))
        (λ y.
        let f : holds_at d t m.key j ≡ false = by_bool (removes d s k p j) gone (λ z. left z ∙ y) in
        f ∙ sym (ap (cond (hits k p m) false) y ∙ cond_same (hits k p m) false))

    clear_find_hit : hits k p m ≡ true → find d (cleared d s k p) m ≡ nowhere
    unfolding find
    clear_find_hit z =
        none_is (holds_at d (cleared d s k p) m.key) (slot_count d m.kind) (first_slot d m.kind)
        (λ j h l. clear_holds j h l ∙ cond-true (hits k p m) false (holds_at d s m.key j) z)

    clear_find_miss : hits k p m ≡ false → find d (cleared d s k p) m ≡ find d s m
    unfolding find
    clear_find_miss z =
        first_same (holds_at d (cleared d s k p) m.key) (holds_at d s m.key) (slot_count d m.kind) (first_slot d m.kind)
        (λ j h l. clear_holds j h l ∙ cond-false (hits k p m) false (holds_at d s m.key j) z)

    clear_view_miss : hits k p m ≡ false → memory_of d (cleared d s k p) m ≡ memory_of d s m
    unfolding memory_of on_found removes
    clear_view_miss z =
        ap (λ (a : Found). on_found a (λ j. kept (memory_at d (cleared d s k p) j)) absent) (clear_find_miss z) ∙ cases (find d s m) refl
      where
        cases : (a : Found) → find d s m ≡ a
            → on_found a (λ j. kept (memory_at d (cleared d s k p) j)) absent ≡ on_found a (λ j. kept (memory_at d s j)) absent
        cases nowhere f = refl
        cases (at j) f =
            let u = found_used d s m j f in
            let r : removes d s k p j ≡ false =
            and_false_right (is_used (head_at d s j)) (hits k p (name_at d s j)) (ap (hits k p) u.2 ∙ z)
            in
            ap kept (memory_in_lem d (cleared d s k p) j ∙ ap memory_in (stays j u.0 r) ∙ sym (memory_in_lem d s j))

    pub clear_view : memory_of d (cleared d s k p) m ≡ cond (hits k p m) absent (memory_of d s m)
    clear_view =
        by_bool (hits k p m)
        (λ z. absent_at d (cleared d s k p) m (clear_find_hit z) ∙ sym (cond-true (hits k p m) absent (memory_of d s m) z))
        (λ z. clear_view_miss z ∙ sym (cond-false (hits k p m) absent (memory_of d s m) z))

-- ---- good form
pub clear_good : (d : Desk) (s : List ℕ) → Ready d s → (k : Kind) (p : ℕ) → Ready d (cleared d s k p)
unfolding entry_fits removes
clear_good d s r k p =
    let t = cleared d s k p in
    let long = r.long in
    let g = r.form in
    record {
      range = r.range;
      long = subst (λ (z : ℕ). store_length d ≤ z) (sym (clear_length d s long k p)) long;
      form =
          record {
            slots =
                λ j h.
                by_bool (removes d s k p j)
                (λ y. zero_fits d t j (slot_length d) (removed d s long k p j h y))
                (λ y. fits_same d t s j (stays d s long k p j h y) ∙ g.slots j h);
            single =
                single_of d t
                (λ j h u.
                by_bool (removes d s k p j)
                (λ y. clash u (zero_unused d t j (slot_length d) (removed d s long k p j h y)))
                (λ y.
                let same : slot_at d t j ≡ slot_at d s j = stays d s long k p j h y in
                let us : is_used (head_at d s j) ≡ true = ap is_used (sym (head_same d t s j same)) ∙ u in
                let miss : hits k p (name_at d s j) ≡ false = sym (ap (λ (b : Bool). b && hits k p (name_at d s j)) us) ∙ y in
                ap (find d t) (name_same d t s j same) ∙ clear_find_miss d s long k p (name_at d s j) miss ∙ found_self d s g j h us));
            entries = λ j h. ap (λ (x : List ℕ). patch_fits d (decode_patch x)) (clear_patch d s long k p j) ∙ g.entries j h;
          };
    }
