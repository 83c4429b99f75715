-- Digit runs: what each character counts; a run read from the front, its value cut early or late alike; how large a run's value can be.
-- By cases on the tests, and by induction on the characters.
-- Assumes nothing.
use Rattle.std.specs.Prelude.{None, Option, Some}
use mathlib.Core.Path.{◌≡◌, refl, sym, ap, ◌∙◌, subst}
use mathlib.Core.List.{List, [], ◌∷◌}
use Prim.Native.Nat.{ℕ, suc, ◌+◌, ◌-◌, ◌*◌, ◌^◌, ◌<◌, ◌≤◌, min}
use native.Mathlib.Nat.{le-mul_of_pos_right, pow-zero, pow-suc, mul-one, mul_assoc, mul_comm, min-le_right, min-le_left, one-mul}
use native.Mathlib.Numerals.{add-one}
use native.Mathlib.Omega.{arith}
use lib.Dec.{ltb}
use lib.ListN.{length, get_or, drop, drop_of_length-le}
use lib.Seq.{drop-cons}
use lib.Arith.{digits_lt}
use borrow.Author.Tests.{lt-ltb, le-ltb, le-leb, lt-leb}
use Rattle.cells.proofs.Split.{by_lt, cond-true, cond-false}
use Rattle.value.specs.Integer.{cap, digit_of, digits_from, run_of, integer_of, AtMost}

-- ---- what a character counts
pub digit_low : (c : ℕ) → c < 48 → digit_of c ≡ 16
unfolding digit_of
digit_low c h = rw (lt-ltb c 48 h)

pub digit_decimal : (c : ℕ) → 48 ≤ c → c ≤ 57 → digit_of c ≡ c - 48
unfolding digit_of
digit_decimal c g h = rw (le-ltb c 48 g, le-leb c 57 h)

pub digit_signs : (c : ℕ) → 57 < c → c < 65 → digit_of c ≡ 16
unfolding digit_of
digit_signs c g h = let k : 48 ≤ c = omega arith in rw (le-ltb c 48 k, lt-leb c 57 g, lt-ltb c 65 h)

pub digit_capital : (c : ℕ) → 65 ≤ c → c ≤ 70 → digit_of c ≡ c - 55
unfolding digit_of
digit_capital c g h =
    let k : 48 ≤ c = omega arith in
    let l : 57 < c = omega arith in
    rw (le-ltb c 48 k, lt-leb c 57 l, le-ltb c 65 g, le-leb c 70 h)

pub digit_letters : (c : ℕ) → 70 < c → c < 97 → digit_of c ≡ 16
unfolding digit_of
digit_letters c g h =
    let k : 48 ≤ c = omega arith in
    let l : 57 < c = omega arith in
    let m : 65 ≤ c = omega arith in
    rw (le-ltb c 48 k, lt-leb c 57 l, le-ltb c 65 m, lt-leb c 70 g, lt-ltb c 97 h)

pub digit_small : (c : ℕ) → 97 ≤ c → c ≤ 102 → digit_of c ≡ c - 87
unfolding digit_of
digit_small c g h =
    let k : 48 ≤ c = omega arith in
    let l : 57 < c = omega arith in
    let m : 65 ≤ c = omega arith in
    let n : 70 < c = omega arith in
    rw (le-ltb c 48 k, lt-leb c 57 l, le-ltb c 65 m, lt-leb c 70 n, le-ltb c 97 g, le-leb c 102 h)

pub digit_high : (c : ℕ) → 102 < c → digit_of c ≡ 16
unfolding digit_of
digit_high c g =
    let k : 48 ≤ c = omega arith in
    let l : 57 < c = omega arith in
    let m : 65 ≤ c = omega arith in
    let n : 70 < c = omega arith in
    let o : 97 ≤ c = omega arith in
    rw (le-ltb c 48 k, lt-leb c 57 l, le-ltb c 65 m, lt-leb c 70 n, le-ltb c 97 o, lt-leb c 102 g)

-- ---- one digit
pub digits_nil : (r a : ℕ) → digits_from r a [] ≡ Some (min a cap)
unfolding digits_from
digits_nil r a = refl

pub digits_cons : (r a c : ℕ) (s : List ℕ) → digit_of c < r → digits_from r a (c ∷ s) ≡ digits_from r (a * r + digit_of c) s
unfolding digits_from
digits_cons r a c s h = cond-true (ltb (digit_of c) r) (digits_from r (a * r + digit_of c) s) None (lt-ltb (digit_of c) r h)

pub digits_other : (r a c : ℕ) (s : List ℕ) → r ≤ digit_of c → digits_from r a (c ∷ s) ≡ None
unfolding digits_from
digits_other r a c s h = cond-false (ltb (digit_of c) r) (digits_from r (a * r + digit_of c) s) None (le-ltb (digit_of c) r h)

-- ---- cutting early changes nothing
pub cap_step : (r a b d : ℕ) → 0 < r → min a cap ≡ min b cap → min (a * r + d) cap ≡ min (b * r + d) cap
cap_step r a b d h e =
    by_lt a cap
    (λ l. let q : a ≡ b = omega arith in ap (λ (x : ℕ). min (x * r + d) cap) q)
    (λ l.
    let m : a ≤ a * r = le-mul_of_pos_right a h in
    let n : b ≤ b * r = le-mul_of_pos_right b h in
    omega arith)

pub digits_cap : (r : ℕ) → 0 < r → (s : List ℕ) (a b : ℕ) → min a cap ≡ min b cap → digits_from r a s ≡ digits_from r b s
digits_cap r h [] a b e = digits_nil r a ∙ ap Some e ∙ sym (digits_nil r b)
digits_cap r h (c ∷ s) a b e =
    by_lt (digit_of c) r
    (λ l.
    digits_cons r a c s l
    ∙ digits_cap r h s (a * r + digit_of c) (b * r + digit_of c) (cap_step r a b (digit_of c) h e)
    ∙ sym (digits_cons r b c s l))
    (λ l. digits_other r a c s l ∙ sym (digits_other r b c s l))

-- ---- a loop over the characters
pub run_empty : (r : ℕ) (s : List ℕ) → length s ≡ 0 → run_of r s ≡ None
unfolding run_of
run_empty r [] e = refl
run_empty r (c ∷ s) e = absurd (let f : length (c ∷ s) ≡ 0 = e in omega arith)

pub run_start : (r : ℕ) (s : List ℕ) → (length s ≡ 0 → ⊥) → run_of r s ≡ digits_from r 0 s
unfolding run_of
run_start r [] f = absurd (f refl)
run_start r (c ∷ s) f = refl

pub run_turn : (r : ℕ) (s : List ℕ) (i a d v : ℕ)
    → 0 < r → i < length s → digit_of (get_or s i 0) < r → d ≡ digit_of (get_or s i 0) → v ≡ min (a * r + d) cap
    → digits_from r a (drop i s) ≡ digits_from r v (drop (i + 1) s)
run_turn r s i a d v p h l e q =
    let g : ℕ = digit_of (get_or s i 0) in
    let k : min (a * r + g) cap ≡ min v cap = ap (λ (x : ℕ). min (a * r + x) cap) (sym e) ∙ (let z : min (a * r + d) cap ≡ min v cap = omega arith in z) in
    ap (λ (z : List ℕ). digits_from r a z) (drop-cons s i 0 h)
    ∙ digits_cons r a (get_or s i 0) (drop (suc i) s) l
    ∙ digits_cap r p (drop (suc i) s) (a * r + g) v k
    ∙ ap (λ (j : ℕ). digits_from r v (drop j s)) (sym (add-one i))

pub run_stop : (r : ℕ) (s : List ℕ) (i a : ℕ) → i < length s → (digit_of (get_or s i 0) < r → ⊥) → digits_from r a (drop i s) ≡ None
run_stop r s i a h f =
    ap (λ (z : List ℕ). digits_from r a z) (drop-cons s i 0 h) ∙ digits_other r a (get_or s i 0) (drop (suc i) s) (omega arith)

pub run_end : (r : ℕ) (s : List ℕ) (i a : ℕ) → length s ≤ i → a ≤ cap → digits_from r a (drop i s) ≡ Some a
run_end r s i a h l =
    ap (λ (z : List ℕ). digits_from r a z) (drop_of_length-le s h) ∙ digits_nil r a
    ∙ ap Some (let e : min a cap ≡ a = omega arith in e)

-- ---- how large
pub at_most_of : (n : ℕ) {i j : Option ℕ} → i ≡ j → AtMost n j → AtMost n i
at_most_of n e h = subst (λ (x : Option ℕ). AtMost n x) (sym e) h

digits_capped : (r : ℕ) (s : List ℕ) (a : ℕ) → AtMost cap (digits_from r a s)
digits_capped r [] a = at_most_of cap (digits_nil r a) (min-le_right a cap)
digits_capped r (c ∷ s) a =
    by_lt (digit_of c) r
    (λ l. at_most_of cap (digits_cons r a c s l) (digits_capped r s (a * r + digit_of c)))
    (λ l. at_most_of cap (digits_other r a c s l) tt)

pub run_capped : (r : ℕ) (s : List ℕ) → AtMost cap (run_of r s)
unfolding run_of
run_capped r [] = tt
run_capped r (c ∷ s) = digits_capped r (c ∷ s) 0

pub integer_capped : (s : List ℕ) → AtMost cap (integer_of s)
unfolding integer_of
integer_capped s = run_capped 10 s

-- n digits behind a value below m have a value below m * r ^ n
abbrev pub Under : ℕ → Option ℕ → Type 0
Under n None = Unit {0}
Under n (Some v) = v < n

under_of : {n m : ℕ} {i j : Option ℕ} → n ≡ m → i ≡ j → Under m j → Under n i
under_of {n} {m} {i} {j} q e h = subst (λ (x : Option ℕ). Under n x) (sym e) (subst (λ (k : ℕ). Under k j) (sym q) h)

pub digits_under : (r : ℕ) (s : List ℕ) (a m : ℕ) → a < m → Under (m * r ^ length s) (digits_from r a s)
digits_under r [] a m h =
    let l : min a cap ≤ a = min-le_left a cap in
    let k : min a cap < m = omega arith in
    under_of (ap (λ (x : ℕ). m * x) (pow-zero r) ∙ mul-one m) (digits_nil r a) k
digits_under r (c ∷ s) a m h =
    by_lt (digit_of c) r
    (λ l.
    under_of (ap (λ (x : ℕ). m * x) (pow-suc r (length s) ∙ mul_comm (r ^ length s) r) ∙ sym (mul_assoc m r (r ^ length s)))
    (digits_cons r a c s l)
    (digits_under r s (a * r + digit_of c) (m * r) (digits_lt h l)))
    (λ l. under_of refl (digits_other r a c s l) tt)

pub run_below : (r : ℕ) (s : List ℕ) {v : ℕ} → run_of r s ≡ Some v → v < r ^ length s
unfolding run_of
run_below r [] e = absurd (let z : ◌≡◌ {A = ℕ} 0 1 = cc in omega arith)
run_below r (c ∷ s) {v} e =
    subst (λ (i : Option ℕ). Under (r ^ length (c ∷ s)) i) e
    (under_of {i = digits_from r 0 (c ∷ s)} (sym (one-mul (r ^ length (c ∷ s)))) refl (digits_under r (c ∷ s) 0 1 (omega arith)))
