-- The key of a slot in one number tells what the head tells: which memory the slot holds, whether it is used, and its page. From the laws of
-- the quick number and linear arithmetic on its four fields.
-- Assumes nothing.
use mathlib.Core.Path.{◌≡◌, refl, sym, ap, ◌∙◌}
use mathlib.Core.Bool.{Bool, true, false, not, ◌&&◌}
use mathlib.Core.List.{List}
use Prim.Native.Nat.{ℕ, ◌+◌, ◌-◌, ◌*◌, ◌≤◌, ◌<◌}
use native.Mathlib.Nat.{add-mul}
use native.Mathlib.Omega.{arith}
use lib.ListN.{length, take, drop, length-drop}
use lib.Seq.{length-take-le}
use Rattle.cells.proofs.Arith.{apart}
use Rattle.cells.proofs.Put.{part_part}
use lib.Dec.{leb, ltb, eqb}
use borrow.Author.Tests.{eqb-true, eq-eqb, leb-true, le-leb, ltb-true, lt-ltb, le-ltb}
use Rattle.cells.specs.Search.{first_from}
use Rattle.cells.proofs.Search.{first_same}
use Rattle.cells.proofs.Split.{by_bool, by_lt, same_test, and_true, and_left, and_right, or_true_left, or_true_right, by_or, not_of_true, not_of_false}
use Rattle.store_desk.specs.declared.Desk.{Desk}
use Rattle.store_desk.specs.declared.Key.{Key}
use Rattle.store_desk.specs.declared.Kind.{Kind}
use Rattle.store_desk.specs.Size.{slot_length, slots_of}
use Rattle.store_desk.specs.Name.{KeyFits, eq_key, first_slot, slot_count, slots_end}
use Rattle.store_desk.proofs.Name.{eq_key_lem, eq_key-true, kind_end}
use Rattle.store_head.specs.Pack.{Bytes}
use Rattle.store_head.specs.Fits.{used_word, page_word, whole_word, word_of, quick_of}
use Rattle.store_head.proofs.Laws.{word_sum}
use Rattle.store.specs.Slots.{slot_at, head_at, key_of, is_used, holds_at, find}
use Rattle.store.specs.Change.{on_page, hits_at, lowest_unused}
use Rattle.store_code.specs.Fits.{Fitting}
use Rattle.store.specs.Order.{slot_word}
use Rattle.store.proofs.Find.{head_fits}
use Rattle.store.proofs.Ordered.{word_is}
use Rattle.store_code.specs.Answer.{name_of, is_word}

module _ (d : Desk) (s : List ℕ) (i : ℕ) (f : Fitting d s) (h : i < slots_of d) (b : Bytes s) where
  sum_at : {w : ℕ} → w ≡ slot_word d s i
      → w ≡ (head_at d s i).used * used_word + ((head_at d s i).page * page_word + ((head_at d s i).whole * whole_word + (head_at d s i).fraction))
  sum_at e = e ∙ word_is d s f.long b i h ∙ word_sum (head_at d s i).used (head_at d s i).page (head_at d s i).whole (head_at d s i).fraction

  used_is : is_used (head_at d s i) ≡ true → (head_at d s i).used ≡ 1
  used_is t = eqb-true (head_at d s i).used 1 t

  -- ---- look-up
  module _ (key : Key) (k : KeyFits key) {w wanted : ℕ} (e : w ≡ slot_word d s i) (q : wanted ≡ word_of 1 key.page key.whole key.fraction) where
    wanted_sum : wanted ≡ used_word + (key.page * page_word + (key.whole * whole_word + key.fraction))
    wanted_sum = let z = word_sum 1 key.page key.whole key.fraction in omega arith

    word_holds : w ≡ wanted → holds_at d s key i ≡ true
    unfolding holds_at
    word_holds g =
        let a = sum_at e in
        let c = wanted_sum in
        let l = head_fits d s i in
        let u : (head_at d s i).used ≡ 1 = omega (arith, l.used, l.page, l.whole, l.fraction, k.page, k.whole, k.fraction) in
        let x : (head_at d s i).page ≡ key.page = omega (arith, l.used, l.page, l.whole, l.fraction, k.page, k.whole, k.fraction) in
        let y : (head_at d s i).whole ≡ key.whole = omega (arith, l.used, l.page, l.whole, l.fraction, k.page, k.whole, k.fraction) in
        let z : (head_at d s i).fraction ≡ key.fraction = omega (arith, l.used, l.page, l.whole, l.fraction, k.page, k.whole, k.fraction) in
        and_true (is_used (head_at d s i)) (eq_key (key_of (head_at d s i)) key)
        (eq-eqb (head_at d s i).used 1 u)
        (eq_key-true (key_of (head_at d s i)) key (λ j. record { page = x j; whole = y j; fraction = z j }))

    holds_word : holds_at d s key i ≡ true → w ≡ wanted
    unfolding holds_at
    holds_word t =
        let u : (head_at d s i).used ≡ 1 = used_is (and_left (is_used (head_at d s i)) (eq_key (key_of (head_at d s i)) key) t) in
        let m : key_of (head_at d s i) ≡ key = eq_key_lem (key_of (head_at d s i)) key (and_right (is_used (head_at d s i)) (eq_key (key_of (head_at d s i)) key) t) in
        let x : (head_at d s i).page ≡ key.page = ap (λ (z : Key). z.page) m in
        let y : (head_at d s i).whole ≡ key.whole = ap (λ (z : Key). z.whole) m in
        let z : (head_at d s i).fraction ≡ key.fraction = ap (λ (z : Key). z.fraction) m in
        let a = sum_at e in
        let c = wanted_sum in
        omega arith

    pub word_test : eqb w wanted ≡ holds_at d s key i
    word_test =
        same_test (eqb w wanted) (holds_at d s key i) (λ t. word_holds (eqb-true w wanted t)) (λ t. eq-eqb w wanted (holds_word t))

  -- ---- used or not
  module _ {w : ℕ} (e : w ≡ slot_word d s i) where
    word_used : used_word ≤ w → is_used (head_at d s i) ≡ true
    word_used g =
        let a = sum_at e in
        let l = head_fits d s i in
        eq-eqb (head_at d s i).used 1 (omega (arith, l.used, l.page, l.whole, l.fraction))

    used_word_lem : is_used (head_at d s i) ≡ true → used_word ≤ w
    used_word_lem t =
        let u : (head_at d s i).used ≡ 1 = used_is t in
        let a = sum_at e in
        omega arith

    pub unused_test : ltb w used_word ≡ not (is_used (head_at d s i))
    unused_test =
        by_lt w used_word
        (λ g. lt-ltb w used_word g ∙ sym (not_of_false (is_used (head_at d s i)) (unless g)))
        (λ g. le-ltb w used_word g ∙ sym (not_of_true (is_used (head_at d s i)) (word_used g)))
      where
        unless : w < used_word → is_used (head_at d s i) ≡ false
        unless g = by_bool (is_used (head_at d s i)) (λ t. absurd (let l = used_word_lem t in omega arith)) (λ t. t)

    -- ---- a CLEAR of every page
    pub hits_every : (p : ℕ) → p ≡ 0 → leb used_word w ≡ hits_at d s p i
    unfolding hits_at
    hits_every p z =
        same_test (leb used_word w) _
        (λ t.
        and_true (is_used (head_at d s i)) (on_page p (head_at d s i).page) (word_used (leb-true used_word w t))
        (or_true_left (eqb p 0) (eqb p (head_at d s i).page) (eq-eqb p 0 z)))
        (λ t. le-leb used_word w (used_word_lem (and_left (is_used (head_at d s i)) (on_page p (head_at d s i).page) t)))

  -- ---- and of one
  module _ {w : ℕ} (p : ℕ) (e : w ≡ slot_word d s i) (np : p ≡ 0 → ⊥) where
    on_page_lem : on_page p (head_at d s i).page ≡ true → p ≡ (head_at d s i).page
    on_page_lem t = by_or (eqb p 0) (eqb p (head_at d s i).page) t (λ z. absurd (np (eqb-true p 0 z))) (λ z. eqb-true p (head_at d s i).page z)

    pub hits_within : {low : ℕ} → low ≡ word_of 1 p 0 0 → (leb low w && ltb w (low + page_word)) ≡ hits_at d s p i
    unfolding hits_at
    hits_within {low} q =
        let a = sum_at e in
        let c = word_sum 1 p 0 0 in
        let l = head_fits d s i in
        same_test (leb low w && ltb w (low + page_word)) _
        (λ t.
        let x = leb-true low w (and_left (leb low w) (ltb w (low + page_word)) t) in
        let y = ltb-true w (low + page_word) (and_right (leb low w) (ltb w (low + page_word)) t) in
        let u : (head_at d s i).used ≡ 1 = omega (arith, l.used, l.page, l.whole, l.fraction) in
        let m : p ≡ (head_at d s i).page = omega (arith, l.used, l.page, l.whole, l.fraction) in
        and_true (is_used (head_at d s i)) (on_page p (head_at d s i).page) (eq-eqb (head_at d s i).used 1 u)
        (or_true_right (eqb p 0) (eqb p (head_at d s i).page) (eq-eqb p (head_at d s i).page m)))
        (λ t.
        let u : (head_at d s i).used ≡ 1 = used_is (and_left (is_used (head_at d s i)) (on_page p (head_at d s i).page) t) in
        let m : p ≡ (head_at d s i).page = on_page_lem (and_right (is_used (head_at d s i)) (on_page p (head_at d s i).page) t) in
        and_true (leb low w) (ltb w (low + page_word)) (le-leb low w (omega arith)) (lt-ltb w (low + page_word) (omega (arith, l.whole, l.fraction))))

-- ---- slots that lie by themselves: so many of the store from one on
module _ (d : Desk) (s : List ℕ) {first end from to : ℕ} (ef : from ≡ first * slot_length d) (et : to ≡ end * slot_length d) where
  pub part_length : first ≤ end → to ≤ length s → length (take (to - from) (drop from s)) ≡ (end - first) * slot_length d
  part_length o r =
      let a : first + (end - first) ≡ end = omega arith in
      let b : (first + (end - first)) * slot_length d ≡ to = ap (λ (k : ℕ). k * slot_length d) a ∙ sym et in
      let c = add-mul first (end - first) (slot_length d) in
      let l : length (drop from s) ≡ length s - from = length-drop from s in
      length-take-le (to - from) (drop from s) (omega arith) ∙ omega arith

  part_word : {i : ℕ} → first ≤ i → i < end → slot_word d (take (to - from) (drop from s)) (i - first) ≡ slot_word d s i
  unfolding slot_word slot_at
  part_word {i} h l =
      let b : first + (i - first) ≡ i = omega arith in
      let p : from + (i - first) * slot_length d ≡ i * slot_length d =
      ap (λ (k : ℕ). k + (i - first) * slot_length d) ef ∙ sym (add-mul first (i - first) (slot_length d)) ∙ ap (λ (k : ℕ). k * slot_length d) b
      in
      let m : i * slot_length d + slot_length d ≤ end * slot_length d = apart (slot_length d) l in
      ap quick_of
      (part_part s from (to - from) ((i - first) * slot_length d) (slot_length d) (omega arith) ∙ ap (λ (k : ℕ). take (slot_length d) (drop k s)) p)

-- ---- the searches, as the code makes them
abbrev pub is_below : Desk → List ℕ → ℕ → ℕ → Bool
is_below d s w i = ltb (slot_word d s i) w

module _ (d : Desk) (s : List ℕ) (k : Kind) (f : Fitting d s) (b : Bytes s) {first end : ℕ} (ef : first ≡ first_slot d k) (ee : end ≡ slots_end d k) where
  of_kind : (p q : ℕ → Bool) → ((i : ℕ) → first ≤ i → i < end → i < slots_of d → p i ≡ q i)
      → first_from p (end - first) first ≡ first_from q (slot_count d k) (first_slot d k)
  of_kind p q g =
      let m : end - first ≡ slot_count d k = omega arith in
      ap (λ (z : ℕ). first_from p z first) m
      ∙ first_same p q (slot_count d k) first (λ i h l. g i h (omega arith) (let e = kind_end d k in omega arith))
      ∙ ap (λ (z : ℕ). first_from q (slot_count d k) z) ef

  pub find_words : (key : Key) → KeyFits key → (wanted : ℕ) → wanted ≡ word_of 1 key.page key.whole key.fraction
      → {from to : ℕ} → from ≡ first * slot_length d → to ≡ end * slot_length d
      → first_from (is_word d (take (to - from) (drop from s)) first wanted) (end - first) first ≡ find d s (name_of k key)
  unfolding find
  find_words key kf wanted q {from} {to} eg et =
      of_kind (is_word d (take (to - from) (drop from s)) first wanted) (holds_at d s key)
      (λ i l m h. word_test d s i f h b key kf (part_word d s eg et l m) q)

  pub unused_words : first_from (is_below d s used_word) (end - first) first ≡ lowest_unused d s k
  unfolding lowest_unused
  unused_words = of_kind (is_below d s used_word) (λ i. not (is_used (head_at d s i))) (λ i l m h. unused_test d s i f h b refl)
