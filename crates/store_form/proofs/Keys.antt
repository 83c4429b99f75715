-- Slots that repeat an earlier one: words side by side tell them. A word is a head's key, so a slot found before under its name is a word that
-- stands before; and where each slot is in form by itself no submaster repeats another, since its key tells its place.
-- Assumes nothing.
use mathlib.Core.Path.{◌≡◌, refl, sym, ap, ◌∙◌, subst}
use mathlib.Core.Bool.{Bool, true, false, cond, not, ◌&&◌}
use mathlib.Core.List.{List, [], ◌∷◌, ◌++◌}
use Prim.Native.Nat.{ℕ, zero, suc, ◌+◌, ◌-◌, ◌<◌, ◌≤◌}
use native.Mathlib.Nat.{add-zero, zero-add, suc-add, add-suc}
use native.Mathlib.Numerals.{add-one}
use native.Mathlib.Omega.{arith}
use lib.Dec.{eqb, ltb}
use lib.ListN.{length, get_or, replicate, set, take, drop}
use lib.Seq.{drop-cons}
use Rattle.std.specs.List.{count_by}
use Rattle.std.proofs.lemmas.List.Recursion.{is_count_by}
use borrow.Author.Tests.{eqb-true, ne_eqb, lt-ltb, le-ltb}
use Rattle.cells.proofs.Split.{by_bool, by_eq, by_lt, cond-true, cond-false, and_left, and_right, not_of_true, not_of_false}
use Rattle.cells.proofs.Search.{none_is, by_first, first_same, first_skip, first_front, all_is, count_nothing, count_same}
use Rattle.cells.proofs.Table.{length-tab, tab_at}
use Rattle.cells.proofs.Pad.{padded_add, padded_nil, get_d_padded}
use Rattle.cells.specs.Pad.{padded}
use Rattle.cells.specs.Search.{Found, nowhere, first_from, all_from, count_from}
use Rattle.cells.specs.Table.{tab}
use Rattle.store_desk.specs.declared.Desk.{Desk}
use Rattle.store_desk.specs.declared.Kind.{Kind}
use Rattle.store_desk.specs.declared.Kind.TheVariants.{Group, Sub}
use Rattle.store_desk.specs.Size.{InRange, slots_of, sub_slots}
use Rattle.store_desk.specs.Name.{first_slot, slot_count, kind_at, eq_key, ok_name, sub_slot}
use Rattle.store_desk.proofs.Name.{eq_key_lem, kind_of}
use Rattle.store_head.specs.Pack.{Bytes}
use Rattle.store_head.specs.Fits.{used_word, word_of}
use Rattle.store.specs.Slots.{head_at, key_of, is_used, holds_at}
use Rattle.store.specs.Form.{place_fits, values_fit, name_at, slot_fits, bad_slot, repeats, repeated_slot}
use Rattle.store.specs.Order.{slot_word}
use Rattle.store.proofs.Find.{head_fits}
use Rattle.store.proofs.Form.{slots_fit}
use Rattle.store.proofs.Repeats.{repeats_unused, repeats_found}
use Rattle.store.proofs.Ordered.{word_is}
use Rattle.store_code.specs.Fits.{Fitting}
use Rattle.store_code.proofs.Word.{word_test, unused_test}
use Rattle.store_form.specs.Keys.{most_keys, key_words, is_key_word, count_word, kind_start, seen_before, Topped, top_of}

-- ---- some place passes exactly where their number is not 0
some_more : (b : Bool) (n : ℕ) (none : Bool) → ltb 0 n ≡ not none → ltb 0 (cond b (suc n) n) ≡ not (cond (not b) none false)
some_more true n none e = lt-ltb 0 (suc n) (omega arith)
some_more false n none e = e

count_some : (p : ℕ → Bool) (n i : ℕ) → ltb 0 (count_from p n i) ≡ not (all_from (λ j. not (p j)) n i)
unfolding count_from all_from
count_some p zero i = refl
count_some p (suc n) i = some_more (p i) (count_from p n (suc i)) (all_from (λ j. not (p j)) n (suc i)) (count_some p n (suc i))

-- where the places after the first n do not pass
first_only : (p : ℕ → Bool) (n m i : ℕ) → ((k : ℕ) → i + n ≤ k → k < i + n + m → p k ≡ false) → first_from p (n + m) i ≡ first_from p n i
first_only p n m i f =
    by_first p n i
    (λ j e r. first_front p n m i j e ∙ sym e)
    (λ e g. first_skip p n m i g ∙ none_is p m (i + n) f ∙ sym e)

-- ---- slots and their words
module _ (d : Desk) (s : List ℕ) (f : Fitting d s) (b : Bytes s) where
  unused_word : (i : ℕ) → i < slots_of d → ltb (slot_word d s i) used_word ≡ not (is_used (head_at d s i))
  unused_word i h = unused_test d s i f h b refl

  same_word : (i j : ℕ) → i < slots_of d → j < slots_of d → is_used (head_at d s i) ≡ true
      → eqb (slot_word d s j) (slot_word d s i) ≡ holds_at d s (key_of (head_at d s i)) j
  same_word i j h l u =
      let x = head_at d s i in
      let g = head_fits d s i in
      word_test d s j f l b (key_of x) (record { page = g.page; whole = g.whole; fraction = g.fraction }) refl
      (word_is d s f.long b i h ∙ ap (λ (z : ℕ). word_of z x.page x.whole x.fraction) (eqb-true x.used 1 u))

-- ---- cues and groups
start_is : (d : Desk) (i : ℕ) → i < first_slot d Sub → kind_start d.cues i ≡ first_slot d (kind_at d i)
unfolding kind_start kind_at first_slot
start_is d i h =
    by_lt i d.cues
    (λ l. cond-true _ _ _ (lt-ltb _ _ l) ∙ sym (ap (first_slot d) (cond-true _ _ _ (lt-ltb _ _ l))))
    (λ l.
    cond-false _ _ _ (le-ltb _ _ l)
    ∙ sym (ap (first_slot d) (cond-false _ _ _ (le-ltb _ _ l) ∙ cond-true _ _ _ (lt-ltb i (d.cues + d.groups) h))))

subs_after : (d : Desk) → first_slot d Sub + sub_slots d ≡ slots_of d
unfolding first_slot slots_of
subs_after d = refl

pub keys_inside : (d : Desk) → first_slot d Sub ≤ slots_of d
keys_inside d = let n : first_slot d Sub + sub_slots d ≡ slots_of d = subs_after d in omega arith

pub most_keys_lem : (d : Desk) → InRange d → first_slot d Sub ≤ most_keys
unfolding first_slot
most_keys_lem d h = let c = h.cues.1 in let g = h.groups.1 in omega arith

module _ (d : Desk) (s : List ℕ) (f : Fitting d s) (b : Bytes s) where
  key_at : (i : ℕ) → i < first_slot d Sub → get_or (key_words d s) i 0 ≡ slot_word d s i
  unfolding key_words
  key_at i h =
      let l : length (tab (slot_word d s) 0 (first_slot d Sub)) ≡ first_slot d Sub = length-tab (slot_word d s) 0 (first_slot d Sub) in
      get_d_padded most_keys (tab (slot_word d s) 0 (first_slot d Sub)) i (omega arith) ∙ tab_at (slot_word d s) (first_slot d Sub) i 0 h

  seen_repeats : (i : ℕ) → i < first_slot d Sub → seen_before d.cues (key_words d s) i ≡ repeats d s i
  unfolding seen_before count_word
  seen_repeats i h =
      let w : ℕ = get_or (key_words d s) i 0 in
      let a : ℕ = kind_start d.cues i in
      let n : first_slot d Sub + sub_slots d ≡ slots_of d = subs_after d in
      let l : i < slots_of d = omega arith in
      let q : ltb w used_word ≡ not (is_used (head_at d s i)) = ap (λ (z : ℕ). ltb z used_word) (key_at i h) ∙ unused_word d s f b i l in
      by_bool (is_used (head_at d s i))
      (λ u.
      cond-false (ltb w used_word) false (ltb 0 (count_from (is_key_word (key_words d s) w) (i - a) a)) (q ∙ ap not u)
      ∙ ap (λ (k : ℕ). ltb 0 k)
      (count_same (is_key_word (key_words d s) w) (holds_at d s (key_of (head_at d s i))) (i - a) a
      (λ j x y.
      let g : j < first_slot d Sub = omega arith in
      let k : j < slots_of d = omega arith in
      ap (λ (z : ℕ). eqb z w) (key_at j g) ∙ ap (λ (z : ℕ). eqb (slot_word d s j) z) (key_at i h) ∙ same_word d s f b i j l k u))
      ∙ count_some (holds_at d s (key_of (head_at d s i))) (i - a) a
      ∙ sym (repeats_found d s i l u a (start_is d i h)))
      (λ u.
      cond-true (ltb w used_word) false (ltb 0 (count_from (is_key_word (key_words d s) w) (i - a) a)) (q ∙ ap not u)
      ∙ sym (repeats_unused d s i u))

-- ---- submasters
module _ (d : Desk) (s : List ℕ) (g : bad_slot d s ≡ nowhere) where
  own_place : (i : ℕ) → i < slots_of d → is_used (head_at d s i) ≡ true → kind_at d i ≡ Sub → i ≡ sub_slot d (key_of (head_at d s i))
  unfolding slot_fits place_fits
  own_place i h u k =
      let o : Bool = ok_name d (name_at d s i) in
      let p : Bool = place_fits d (kind_at d i) i (key_of (head_at d s i)) in
      let v : Bool = values_fit (kind_at d i) (head_at d s i) in
      let e : (o && p && v) ≡ true = sym (cond-true _ _ _ u) ∙ slots_fit d s g i h in
      let q : p ≡ true = and_right o p (and_left (o && p) v e) in
      eqb-true i (sub_slot d (key_of (head_at d s i))) (subst (λ (z : Kind). place_fits d z i (key_of (head_at d s i)) ≡ true) k q)

  other : (i j : ℕ) → i < slots_of d → is_used (head_at d s i) ≡ true → kind_at d i ≡ Sub → first_slot d Sub ≤ j → j < i
      → holds_at d s (key_of (head_at d s i)) j ≡ false
  unfolding holds_at slot_count
  other i j h u k l m =
      let n : first_slot d Sub + sub_slots d ≡ slots_of d = subs_after d in
      by_bool (holds_at d s (key_of (head_at d s i)) j)
      (λ t.
      let v : is_used (head_at d s j) ≡ true = and_left _ (eq_key (key_of (head_at d s j)) (key_of (head_at d s i))) t in
      let e : key_of (head_at d s j) ≡ key_of (head_at d s i) = eq_key_lem _ _ (and_right (is_used (head_at d s j)) _ t) in
      let p : j ≡ sub_slot d (key_of (head_at d s j)) = own_place j (omega arith) v (kind_of d Sub j l (omega arith)) in
      let q : i ≡ sub_slot d (key_of (head_at d s i)) = own_place i h u k in
      let r : j ≡ i = p ∙ ap (sub_slot d) e ∙ sym q in
      absurd (omega arith))
      (λ t. t)

  sub_once : (i : ℕ) → first_slot d Sub ≤ i → i < slots_of d → repeats d s i ≡ false
  unfolding slot_count
  sub_once i l h =
      let n : first_slot d Sub + sub_slots d ≡ slots_of d = subs_after d in
      let k : kind_at d i ≡ Sub = kind_of d Sub i l (omega arith) in
      by_bool (is_used (head_at d s i))
      (λ u.
      repeats_found d s i h u (first_slot d Sub) (ap (first_slot d) (sym k))
      ∙ not_of_true _
      (all_is (λ j. not (holds_at d s (key_of (head_at d s i)) j)) (i - first_slot d Sub) (first_slot d Sub)
      (λ j x y. not_of_false _ (other i j h u k x (omega arith)))))
      (λ u. repeats_unused d s i u)

  pub repeated_before : first_from (repeats d s) (first_slot d Sub) 0 ≡ repeated_slot d s
  unfolding repeated_slot
  repeated_before =
      let n : first_slot d Sub + sub_slots d ≡ slots_of d = subs_after d in
      sym (first_only (repeats d s) (first_slot d Sub) (sub_slots d) 0 (λ k x y. sub_once k (omega arith) (omega arith)))
      ∙ ap (λ (z : ℕ). first_from (repeats d s) z 0) n

-- ---- what the code finds among the words
pub repeated_is : (d : Desk) (s : List ℕ) → Fitting d s → Bytes s → bad_slot d s ≡ nowhere → {c n : ℕ} {ks : List ℕ} {r : Found}
    → c ≡ first_slot d Group → n ≡ first_slot d Sub → ks ≡ key_words d s → r ≡ first_from (seen_before c ks) n 0 → r ≡ repeated_slot d s
unfolding first_slot
repeated_is d s f b g {c} {n} {ks} e q k r =
    r ∙ ap (λ (z : ℕ). first_from (seen_before z ks) n 0) e ∙ ap (λ (z : List ℕ). first_from (seen_before d.cues z) n 0) k
    ∙ ap (λ (z : ℕ). first_from (seen_before d.cues (key_words d s)) z 0) q
    ∙ first_same (seen_before d.cues (key_words d s)) (repeats d s) (first_slot d Sub) 0 (λ i x y. seen_repeats d s f b i (omega arith))
    ∙ repeated_before d s g

-- ---- the words one by one
tab_snoc : (f : ℕ → ℕ) (k n : ℕ) → tab f k (suc n) ≡ tab f k n ++ (f (k + n) ∷ [])
unfolding tab
tab_snoc f k zero = ap (λ (z : ℕ). f z ∷ []) (sym (add-zero k))
tab_snoc f k (suc n) = ap (λ (z : List ℕ). f k ∷ z) (tab_snoc f (suc k) n ∙ ap (λ (z : ℕ). tab f (suc k) n ++ (f z ∷ [])) (suc-add k n ∙ sym (add-suc k n)))

pub words_none : (d : Desk) (s : List ℕ) → replicate most_keys 0 ≡ padded most_keys (tab (slot_word d s) 0 0)
unfolding tab
words_none d s = sym (padded_nil most_keys)

pub words_turn : (d : Desk) (s : List ℕ) (i w : ℕ) {z : List ℕ}
    → z ≡ padded most_keys (tab (slot_word d s) 0 i) → i < most_keys → w ≡ slot_word d s i → set z i w ≡ padded most_keys (tab (slot_word d s) 0 (i + 1))
words_turn d s i w {z} e h q =
    padded_add most_keys (tab (slot_word d s) 0 i) i w e (sym (length-tab (slot_word d s) 0 i)) h
    ∙ ap (λ (x : ℕ). padded most_keys (tab (slot_word d s) 0 i ++ (x ∷ []))) (q ∙ ap (slot_word d s) (sym (zero-add i)))
    ∙ ap (padded most_keys) (sym (tab_snoc (slot_word d s) 0 i) ∙ ap (tab (slot_word d s) 0) (sym (add-one i)))

pub words_end : (d : Desk) (s : List ℕ) (i n : ℕ) {z : List ℕ}
    → z ≡ padded most_keys (tab (slot_word d s) 0 i) → i ≤ n → n ≤ i → n ≡ first_slot d Sub → z ≡ key_words d s
unfolding key_words
words_end d s i n e a b q =
    let m : i ≡ first_slot d Sub = omega arith in
    e ∙ ap (λ (k : ℕ). padded most_keys (tab (slot_word d s) 0 k)) m

-- ---- how often a word stands before a slot
pub start_below : (c i : ℕ) {a : ℕ} → a ≡ kind_start c i → a ≤ i
unfolding kind_start
start_below c i e =
    by_lt i c
    (λ h. let l = cond-true (ltb i c) 0 c (lt-ltb i c h) in omega arith)
    (λ h. let l = cond-false (ltb i c) 0 c (le-ltb i c h) in omega arith)

pub seen_unused : (c : ℕ) (ks : List ℕ) (i : ℕ) → get_or ks i 0 < used_word → false ≡ seen_before c ks i
unfolding seen_before
seen_unused c ks i h = sym (cond-true _ _ _ (lt-ltb (get_or ks i 0) used_word h))

pub seen_used : (c : ℕ) (ks : List ℕ) (i : ℕ) {a n : ℕ} → used_word ≤ get_or ks i 0 → a ≡ kind_start c i → n ≡ count_word ks (get_or ks i 0) a i
    → ltb 0 n ≡ seen_before c ks i
unfolding seen_before
seen_used c ks i h e g =
    ap (λ (k : ℕ). ltb 0 k) (g ∙ ap (λ (z : ℕ). count_word ks (get_or ks i 0) z i) e)
    ∙ sym (cond-false _ _ _ (le-ltb (get_or ks i 0) used_word h))

-- ---- a word above all those before it was not seen before
pub seen_above : (c : ℕ) (ks : List ℕ) (i top : ℕ) → Topped c ks i top → used_word ≤ get_or ks i 0 → top < get_or ks i 0 → false ≡ seen_before c ks i
unfolding seen_before count_word
seen_above c ks i top t u h =
    let w = get_or ks i 0 in
    let a = kind_start c i in
    let none : count_from (is_key_word ks w) (i - a) a ≡ 0 =
    count_nothing (is_key_word ks w) (i - a) a
    (λ k f g. ne_eqb (get_or ks k 0) w (λ e. let l = t.above k f (omega arith) in absurd (omega arith)))
    in
    sym (cond-false (ltb w used_word) false _ (le-ltb w used_word u) ∙ ap (λ (k : ℕ). ltb 0 k) none ∙ le-ltb 0 0 (omega arith))

pub topped_start : (c : ℕ) (ks : List ℕ) → Topped c ks 0 0
topped_start c ks = record { above = λ j a b. absurd (omega arith) }

start_next : (c i : ℕ) → (i + 1 ≡ c → ⊥) → kind_start c (i + 1) ≡ kind_start c i
unfolding kind_start
start_next c i ne =
    by_lt (i + 1) c
    (λ h. cond-true (ltb (i + 1) c) 0 c (lt-ltb (i + 1) c h) ∙ sym (cond-true (ltb i c) 0 c (lt-ltb i c (omega arith))))
    (λ h.
    by_lt c (i + 1)
    (λ g. cond-false (ltb (i + 1) c) 0 c (le-ltb (i + 1) c h) ∙ sym (cond-false (ltb i c) 0 c (le-ltb i c (omega arith))))
    (λ g. absurd (ne (omega arith))))

start_turned : (c i : ℕ) → i ≡ c → kind_start c i ≡ c
unfolding kind_start
start_turned c i e = cond-false (ltb i c) 0 c (le-ltb i c (omega arith))

-- the higher of the two
higher : (top word : ℕ) → (top ≤ cond (ltb top word) word top) × (word ≤ cond (ltb top word) word top)
higher top word =
    by_lt top word
    (λ h. let e = cond-true (ltb top word) word top (lt-ltb top word h) in (omega arith, omega arith))
    (λ h. let e = cond-false (ltb top word) word top (le-ltb top word h) in (omega arith, omega arith))

pub topped_turn : (c : ℕ) (ks : List ℕ) (i top : ℕ) {t : ℕ} → Topped c ks i top → t ≡ top_of c (i + 1) top (get_or ks i 0) → Topped c ks (i + 1) t
unfolding top_of
topped_turn c ks i top {t} p q =
    by_eq (i + 1) c
    (λ e. record { above = λ j a b. let s = start_turned c (i + 1) e in absurd (omega arith) })
    (λ ne.
    let m = cond (ltb top (get_or ks i 0)) (get_or ks i 0) top in
    let w : t ≡ m = q ∙ cond-false (eqb (i + 1) c) 0 m (ne_eqb (i + 1) c ne) in
    let s = start_next c i ne in
    let hi = higher top (get_or ks i 0) in
    let ht = hi.0 in
    let hw = hi.1 in
    record {
      above =
          λ j a b.
          by_eq j i
          (λ e. let l : get_or ks j 0 ≡ get_or ks i 0 = ap (λ (z : ℕ). get_or ks z 0) e in omega arith)
          (λ d. let l = p.above j (omega arith) (omega arith) in omega arith);
    })

-- how often a word stands in a list
counts : ℕ → List ℕ → ℕ
counts w [] = 0
counts w (x ∷ xs) = let r = counts w xs in cond (eqb x w) (suc r) r

counts_from : (ks : List ℕ) (w n a : ℕ) → a + n ≤ length ks → counts w (take n (drop a ks)) ≡ count_from (is_key_word ks w) n a
unfolding counts count_from
counts_from ks w zero a h = refl
counts_from ks w (suc n) a h =
    ap (λ (z : List ℕ). counts w (take (suc n) z)) (drop-cons ks a 0 (omega arith))
    ∙ ap (λ (k : ℕ). cond (eqb (get_or ks a 0) w) (suc k) k) (counts_from ks w n (suc a) (omega arith))

counts_by : (w : ℕ) (xs : List ℕ) → counts w xs ≡ count_by (λ x. eqb x w) xs
unfolding counts
counts_by w xs =
    is_count_by (counts w) (λ x. eqb x w) refl
    (λ x ys. let e : suc (counts w ys) ≡ 1 + counts w ys = omega arith in ap (λ (k : ℕ). cond (eqb x w) k (counts w ys)) e)
    xs

pub counted : (ks : List ℕ) (w a e : ℕ) → a ≤ e → e ≤ length ks → count_by (λ x. eqb x w) (take (e - a) (drop a ks)) ≡ count_word ks w a e
unfolding count_word
counted ks w a e o h = sym (counts_by w (take (e - a) (drop a ks))) ∙ counts_from ks w (e - a) a (omega arith)
