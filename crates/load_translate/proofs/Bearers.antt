-- The last bearers that the second walk finds are those that the definition tells, wherever a number was asked for; and the turns of the loops
-- that find them. By induction on the numbers that were borne, and on the slots.
-- Assumes nothing.
use mathlib.Core.Path.{◌≡◌, refl, sym, ap, ◌∙◌, subst}
use mathlib.Core.Bool.{Bool, true, false, cond, not, ◌&&◌, true≢false}
use mathlib.Core.List.{List, [], ◌∷◌}
use Prim.Native.Nat.{ℕ, zero, suc, ◌+◌, ◌-◌, ◌≤◌, ◌<◌}
use native.Mathlib.Numerals.{add-one}
use native.Mathlib.Omega.{arith}
use lib.Dec.{eqb}
use lib.ListN.{length, get_or, set, replicate, length-set, length-replicate, get_or-replicate}
use lib.Seq.{get_or-set_same, get_or-set_other}
use borrow.Author.Tests.{eqb-true, eq-eqb, ne_eqb}
use Rattle.std.specs.List.{list_any}
use Rattle.cells.proofs.Split.{by_test, by_bool, by_eq, cond-true, cond-false, cond_ap, same_test}
use Rattle.value.specs.Number.{no_number}
use Rattle.load.specs.Translated.{last_bearer, bearer_of}
use Rattle.load_translate.specs.Bearing.{bearer_now, met_from, met, found_by, sought_by}
use Rattle.load_translate.specs.Links.{any_asked}

-- ---- whether anything was asked for
pub any_is : (asked : List ℕ) → list_any (λ (a : ℕ). not (eqb a 0)) asked ≡ any_asked asked
unfolding any_asked
any_is [] = refl
any_is (a ∷ asked) = by_bool (eqb a 0) (λ t. rw t (any_is asked)) (λ t. rw t refl)

first_none : (a : ℕ) (r : Bool) → cond (eqb a 0) r true ≡ false → a ≡ 0
first_none a r e = by_bool (eqb a 0) (λ t. eqb-true a 0 t) (λ t. absurd (true≢false (sym (cond-false (eqb a 0) r true t) ∙ e)))

rest_none : (a : ℕ) (r : Bool) → cond (eqb a 0) r true ≡ false → r ≡ false
rest_none a r e =
    by_bool (eqb a 0) (λ t. sym (cond-true (eqb a 0) r true t) ∙ e) (λ t. absurd (true≢false (sym (cond-false (eqb a 0) r true t) ∙ e)))

none_asked : (asked : List ℕ) → any_asked asked ≡ false → (i : ℕ) → get_or asked i 0 ≡ 0
unfolding any_asked
none_asked [] e i = refl
none_asked (a ∷ asked) e zero = first_none a (any_asked asked) e
none_asked (a ∷ asked) e (suc i) = none_asked asked (rest_none a (any_asked asked) e) i

-- ---- a number met, in one slot
pub now_borne : (asked m k bearer : ℕ) → asked ≡ m + 1 → k ≡ bearer_now asked m k bearer
unfolding bearer_now
now_borne asked m k bearer e = sym (cond-true (eqb asked (m + 1)) k bearer (eq-eqb asked (m + 1) e))

pub still_borne : (asked m k bearer : ℕ) → (asked ≡ m + 1 → ⊥) → bearer ≡ bearer_now asked m k bearer
unfolding bearer_now
still_borne asked m k bearer e = sym (cond-false (eqb asked (m + 1)) k bearer (ne_eqb asked (m + 1) e))

-- ---- and slot by slot
module _ (asked : List ℕ) (m k : ℕ) where
  from_length : (n i : ℕ) (found : List ℕ) → length (met_from asked m k n i found) ≡ length found
  unfolding met_from
  from_length zero i found = refl
  from_length (suc n) i found =
      let v = bearer_now (get_or asked i 0) m k (get_or found i 0) in from_length n (suc i) (set found i v) ∙ length-set found i v

  from_before : (n i : ℕ) (found : List ℕ) (j : ℕ) → j < i → get_or (met_from asked m k n i found) j 0 ≡ get_or found j 0
  unfolding met_from
  from_before zero i found j h = refl
  from_before (suc n) i found j h =
      let v = bearer_now (get_or asked i 0) m k (get_or found i 0) in
      from_before n (suc i) (set found i v) j (omega arith) ∙ get_or-set_other found i j v 0 (λ e. absurd (omega arith))

  from_at : (n i : ℕ) (found : List ℕ) (j : ℕ) → i ≤ j → j < i + n → j < length found
      → get_or (met_from asked m k n i found) j 0 ≡ bearer_now (get_or asked j 0) m k (get_or found j 0)
  unfolding met_from
  from_at zero i found j h g l = absurd (omega arith)
  from_at (suc n) i found j h g l =
      let v : ℕ → ℕ = λ z. bearer_now (get_or asked z 0) m k (get_or found z 0) in
      let q : length (set found i (v i)) ≡ length found = length-set found i (v i) in
      by_eq j i
      (λ e.
      from_before n (suc i) (set found i (v i)) j (omega arith)
      ∙ ap (λ (z : ℕ). get_or (set found z (v z)) j 0) (sym e)
      ∙ get_or-set_same found j (v j) 0 l)
      (λ e.
      from_at n (suc i) (set found i (v i)) j (omega arith) (omega arith) (omega arith)
      ∙ ap (bearer_now (get_or asked j 0) m k) (get_or-set_other found i j (v i) 0 e))

  -- the turns of the loop over the slots
  pub meet_more : (n : ℕ) {i : ℕ} (found : List ℕ) {v : ℕ} → i < n → v ≡ bearer_now (get_or asked i 0) m k (get_or found i 0)
      → met_from asked m k (n - i) i found ≡ met_from asked m k (n - (i + 1)) (i + 1) (set found i v)
  unfolding met_from
  meet_more n {i} found {v} h e =
      let s : n - i ≡ suc (n - (i + 1)) = omega arith in
      ap (λ (z : ℕ). met_from asked m k z i found) s ∙ (λ j. met_from asked m k (n - (i + 1)) (sym (add-one i) j) (set found i (sym e j)))

  pub meet_end : (n : ℕ) {i : ℕ} (found : List ℕ) → n ≤ i → met_from asked m k (n - i) i found ≡ found
  unfolding met_from
  meet_end n {i} found h = let s : n - i ≡ 0 = omega arith in ap (λ (z : ℕ). met_from asked m k z i found) s

  met-length : (found : List ℕ) → length (met asked m k found) ≡ length found
  unfolding met
  met-length found =
      by_test (λ (z : List ℕ). length z ≡ length found) (eqb m no_number) _ _ (λ e. refl) (λ e. from_length (length found) 0 found)

-- ---- the test of the definition is the test of the code
either_way : (p q : Bool) (k f : ℕ) → cond q f (cond p k f) ≡ cond (p && not q) k f
either_way true true k f = refl
either_way true false k f = refl
either_way false true k f = refl
either_way false false k f = refl

module _ (a b : ℕ) (n : a ≡ 0 → ⊥) where
  asks_same : eqb a (b + 1) ≡ eqb (a - 1) b
  asks_same =
      same_test (eqb a (b + 1)) (eqb (a - 1) b)
      (λ t. let e : a ≡ b + 1 = eqb-true a (b + 1) t in eq-eqb (a - 1) b (omega arith))
      (λ t. let e : a - 1 ≡ b = eqb-true (a - 1) b t in eq-eqb a (b + 1) (omega arith))

  now_same : (k f : ℕ) → cond (eqb b no_number) f (bearer_now a b k f) ≡ cond (eqb (a - 1) b && not (eqb b no_number)) k f
  unfolding bearer_now
  now_same k f =
      ap (λ (t : Bool). cond (eqb b no_number) f (cond t k f)) asks_same ∙ either_way (eqb (a - 1) b) (eqb b no_number) k f

module _ (asked : List ℕ) (i : ℕ) (n : get_or asked i 0 ≡ 0 → ⊥) where
  met_at : (b k : ℕ) (found : List ℕ) → i < length found
      → get_or (met asked b k found) i 0 ≡ cond (eqb (get_or asked i 0 - 1) b && not (eqb b no_number)) k (get_or found i 0)
  unfolding met
  met_at b k found h =
      cond_ap (λ (z : List ℕ). get_or z i 0) (eqb b no_number) found (met_from asked b k (length found) 0 found)
      ∙ ap (cond (eqb b no_number) (get_or found i 0)) (from_at asked b k (length found) 0 found i (omega arith) (omega arith) h)
      ∙ now_same (get_or asked i 0) b n k (get_or found i 0)

  found_at : (bs : List ℕ) (k : ℕ) (found : List ℕ) → i < length found
      → get_or (found_by asked k found bs) i 0 ≡ last_bearer (get_or asked i 0 - 1) k (get_or found i 0) bs
  unfolding found_by last_bearer
  found_at [] k found h = refl
  found_at (b ∷ bs) k found h =
      let l : length (met asked b k found) ≡ length found = met-length asked b k found in
      found_at bs (k + 1) (met asked b k found) (omega arith)
      ∙ ap (λ (z : ℕ). last_bearer (get_or asked i 0 - 1) (k + 1) z bs) (met_at b k found h)

-- ---- what is found is the last bearer
pub sought_at : (asked bs : List ℕ) (n i : ℕ) → i < n → (get_or asked i 0 ≡ 0 → ⊥)
    → get_or (sought_by asked (replicate n 0) bs) i 0 ≡ bearer_of (get_or asked i 0) bs
unfolding sought_by
sought_at asked bs n i h a =
    by_bool (any_asked asked)
    (λ t.
    ap (λ (z : List ℕ). get_or z i 0) (cond-true (any_asked asked) (found_by asked 1 (replicate n 0) bs) (replicate n 0) t)
    ∙ found_at asked i a bs 1 (replicate n 0) (subst (λ (k : ℕ). i < k) (sym (length-replicate n 0)) h)
    ∙ ap (λ (z : ℕ). last_bearer (get_or asked i 0 - 1) 1 z bs) (get_or-replicate n i 0 0 h))
    (λ t. absurd (a (none_asked asked t i)))

-- as the code seeks them
module _ (asked found bs : List ℕ) {b : Bool} (e : b ≡ any_asked asked) where
  pub sought_some : b ≡ true → {now : List ℕ} → now ≡ found_by asked 1 found bs → now ≡ sought_by asked found bs
  unfolding sought_by
  sought_some t q = q ∙ sym (cond-true (any_asked asked) (found_by asked 1 found bs) found (sym e ∙ t))

  pub sought_none : b ≡ false → found ≡ sought_by asked found bs
  unfolding sought_by
  sought_none t = sym (cond-false (any_asked asked) (found_by asked 1 found bs) found (sym e ∙ t))
