-- Digits read in the scan that finds their end: what they make of a field that ends there or goes on, how large their value can be, and which
-- characters they are. By cases on the tests, by induction on the characters, and by computation at all 256 characters.
-- Assumes nothing.
use Rattle.std.specs.Prelude.{None, Option, Some}
use mathlib.Core.Path.{◌≡◌, refl, sym, ap, ◌∙◌, subst}
use mathlib.Core.Bool.{true, false}
use mathlib.Core.List.{List, [], ◌∷◌}
use Prim.Native.Nat.{ℕ, zero, suc, ◌+◌, ◌-◌, ◌*◌, ◌^◌, ◌<◌, ◌≤◌, min}
use native.Mathlib.Nat.{min-le_right, pow-le-pow_right, one-mul}
use native.Mathlib.Numerals.{add-one}
use native.Mathlib.Omega.{arith}
use lib.ListN.{length, get_or, take, drop, drop_of_length-le}
use lib.Seq.{drop-cons, length-take-le}
use borrow.Author.Tests.{ltb-true, ltb-false, lt-ltb, le-ltb}
use Rattle.cells.specs.Scan.{span}
use Rattle.cells.proofs.Scan.{span_nil, span_hit, span_miss, span_more, span_stop, span_end, span_le}
use Rattle.cells.proofs.Split.{by_bool, by_lt, by_le, cond-true, cond-false}
use Rattle.value.specs.declared.DigitRun.{DigitRun}
use Rattle.value.specs.Integer.{cap, digit_of, digits_from, run_of, integer_of}
use Rattle.value.specs.Digits.{is_digit, value_from, digits_at}
use Rattle.value.proofs.Digits.{digit_low, digit_decimal, digit_signs, digit_capital, digit_letters, digit_small, digit_high, digits_nil, digits_cons, digits_other, cap_step, run_empty, run_start, Under, digits_under}

-- ---- which characters are digits
pub digit_no : (r c : ℕ) → r ≤ 16 → digit_of c ≡ 16 → is_digit r c ≡ false
digit_no r c h e = le-ltb (digit_of c) r (omega arith)

-- a digit is one of three ranges
pub by_digit {ℓ} : {X : Type ℓ} (r c : ℕ) → r ≤ 16 → is_digit r c ≡ true
    → (48 ≤ c → c ≤ 57 → X) → (65 ≤ c → c ≤ 70 → X) → (97 ≤ c → c ≤ 102 → X) → X
by_digit {X} r c h e f g k =
    let d : digit_of c < r = ltb-true (digit_of c) r e in
    let no : digit_of c ≡ 16 → X = λ q. absurd (omega arith) in
    by_lt c 48 (λ a. no (digit_low c a))
    (λ a. by_le c 57 (λ b. f a b)
    (λ b. by_lt c 65 (λ a₂. no (digit_signs c b a₂))
    (λ a₂. by_le c 70 (λ b₂. g a₂ b₂)
    (λ b₂. by_lt c 97 (λ a₃. no (digit_letters c b₂ a₃))
    (λ a₃. by_le c 102 (λ b₃. k a₃ b₃) (λ b₃. no (digit_high c b₃)))))))

pub decimal_is : (c : ℕ) → 48 ≤ c → c ≤ 57 → is_digit 10 c ≡ true
decimal_is c h g = lt-ltb (digit_of c) 10 (let e : digit_of c ≡ c - 48 = digit_decimal c h g in omega arith)

pub decimal_range : (c : ℕ) → is_digit 10 c ≡ true → (48 ≤ c) × (c ≤ 57)
decimal_range c e =
    let d : digit_of c < 10 = ltb-true (digit_of c) 10 e in
    by_digit 10 c (omega arith) e
    (λ h g. (h, g))
    (λ h g. absurd (let q : digit_of c ≡ c - 55 = digit_capital c h g in omega arith))
    (λ h g. absurd (let q : digit_of c ≡ c - 87 = digit_small c h g in omega arith))

pub decimal_low : (c : ℕ) → is_digit 10 c ≡ true → 48 ≤ c
decimal_low c e = (decimal_range c e).0

pub decimal_high : (c : ℕ) → is_digit 10 c ≡ true → c ≤ 57
decimal_high c e = (decimal_range c e).1

pub decimal_counts : (c : ℕ) → is_digit 10 c ≡ true → digit_of c ≡ c - 48
decimal_counts c e = digit_decimal c (decimal_low c e) (decimal_high c e)

pub decimal_hex : (c : ℕ) → is_digit 10 c ≡ true → is_digit 16 c ≡ true
decimal_hex c e = let d : digit_of c < 10 = ltb-true (digit_of c) 10 e in lt-ltb (digit_of c) 16 (omega arith)

-- ---- the value of the digits at the front
pub value_nil : (r a : ℕ) → value_from r a [] ≡ min a cap
unfolding value_from
value_nil r a = refl

pub value_hit : (r a c : ℕ) (s : List ℕ) → is_digit r c ≡ true → value_from r a (c ∷ s) ≡ value_from r (a * r + digit_of c) s
unfolding value_from
value_hit r a c s e = cond-true (is_digit r c) (value_from r (a * r + digit_of c) s) (min a cap) e

pub value_miss : (r a c : ℕ) (s : List ℕ) → is_digit r c ≡ false → value_from r a (c ∷ s) ≡ min a cap
unfolding value_from
value_miss r a c s e = cond-false (is_digit r c) (value_from r (a * r + digit_of c) s) (min a cap) e

-- cutting early changes nothing
pub value_cap : (r : ℕ) → 0 < r → (s : List ℕ) (a b : ℕ) → min a cap ≡ min b cap → value_from r a s ≡ value_from r b s
value_cap r h [] a b e = value_nil r a ∙ e ∙ sym (value_nil r b)
value_cap r h (c ∷ s) a b e =
    by_bool (is_digit r c)
    (λ t.
    value_hit r a c s t
    ∙ value_cap r h s (a * r + digit_of c) (b * r + digit_of c) (cap_step r a b (digit_of c) h e)
    ∙ sym (value_hit r b c s t))
    (λ t. value_miss r a c s t ∙ e ∙ sym (value_miss r b c s t))

pub value_capped : (r a : ℕ) (s : List ℕ) → value_from r a s ≤ cap
value_capped r a [] = subst (λ (v : ℕ). v ≤ cap) (sym (value_nil r a)) (min-le_right a cap)
value_capped r a (c ∷ s) =
    by_bool (is_digit r c)
    (λ t. subst (λ (v : ℕ). v ≤ cap) (sym (value_hit r a c s t)) (value_capped r (a * r + digit_of c) s))
    (λ t. subst (λ (v : ℕ). v ≤ cap) (sym (value_miss r a c s t)) (min-le_right a cap))

-- what a run of digits is read as, and where it ends
module _ (r : ℕ) (text : List ℕ) (at : ℕ) {d : DigitRun} (e : d ≡ digits_at r text at) where
  pub run_value : d.value ≡ value_from r 0 (drop at text)
  unfolding digits_at
  run_value = ap (λ (x : DigitRun). x.value) e

  pub run_end : d.end ≡ at + span (is_digit r) (drop at text)
  unfolding digits_at
  run_end = ap (λ (x : DigitRun). x.end) e

-- ---- a loop over them, with the invariant `run_from r value text i ≡ digits_at r text at`
unfoldable pub run_from : ℕ → ℕ → List ℕ → ℕ → DigitRun
run_from r a text i = record { value = value_from r a (drop i text); end = i + span (is_digit r) (drop i text) }

abbrev pub digit_run : ℕ → ℕ → DigitRun
digit_run v n = record { value = v; end = n }

pub walk_start : (r : ℕ) (text : List ℕ) (at : ℕ) → run_from r 0 text at ≡ digits_at r text at
unfolding run_from digits_at
walk_start r text at = refl

pub walk_turn : (r : ℕ) (text : List ℕ) (i a d v : ℕ) {e : DigitRun}
    → 0 < r → i < length text → digit_of (get_or text i 0) < r → d ≡ digit_of (get_or text i 0) → v ≡ min (a * r + d) cap
    → run_from r a text i ≡ e → run_from r v text (i + 1) ≡ e
unfolding run_from
walk_turn r text i a d v p h l q m g =
    let c : ℕ = get_or text i 0 in
    let t : is_digit r c ≡ true = lt-ltb (digit_of c) r l in
    let k : min v cap ≡ min (a * r + digit_of c) cap =
    (let z : min v cap ≡ min (a * r + d) cap = omega arith in z) ∙ ap (λ (x : ℕ). min (a * r + x) cap) q in
    let w : value_from r v (drop (i + 1) text) ≡ value_from r a (drop i text) =
    value_cap r p (drop (i + 1) text) v (a * r + digit_of c) k
    ∙ ap (λ (j : ℕ). value_from r (a * r + digit_of c) (drop j text)) (add-one i)
    ∙ sym (ap (λ (z : List ℕ). value_from r a z) (drop-cons text i 0 h) ∙ value_hit r a c (drop (suc i) text) t) in
    let n : span (is_digit r) (drop i text) ≡ suc (span (is_digit r) (drop (i + 1) text)) = span_more (is_digit r) text i h refl t in
    let o : i + 1 + span (is_digit r) (drop (i + 1) text) ≡ i + span (is_digit r) (drop i text) = omega arith in
    ap (λ (x : ℕ). digit_run x (i + 1 + span (is_digit r) (drop (i + 1) text))) w
    ∙ ap (λ (x : ℕ). digit_run (value_from r a (drop i text)) x) o
    ∙ g

walk_last : (r : ℕ) (text : List ℕ) (i a : ℕ) {e : DigitRun}
    → value_from r a (drop i text) ≡ min a cap → span (is_digit r) (drop i text) ≡ 0 → a ≤ cap → run_from r a text i ≡ e → digit_run a i ≡ e
unfolding run_from
walk_last r text i a v n h g =
    let w : a ≡ value_from r a (drop i text) = (let z : a ≡ min a cap = omega arith in z) ∙ sym v in
    let o : i ≡ i + span (is_digit r) (drop i text) = omega arith in
    ap (λ (x : ℕ). digit_run x i) w ∙ ap (λ (x : ℕ). digit_run (value_from r a (drop i text)) x) o ∙ g

pub walk_stop : (r : ℕ) (text : List ℕ) (i a : ℕ) {e : DigitRun}
    → i < length text → (digit_of (get_or text i 0) < r → ⊥) → a ≤ cap → run_from r a text i ≡ e → digit_run a i ≡ e
walk_stop r text i a h f l g =
    let t : is_digit r (get_or text i 0) ≡ false = le-ltb (digit_of (get_or text i 0)) r (omega arith) in
    walk_last r text i a
    (ap (λ (z : List ℕ). value_from r a z) (drop-cons text i 0 h) ∙ value_miss r a (get_or text i 0) (drop (suc i) text) t)
    (span_stop (is_digit r) text i h refl t) l g

pub walk_end : (r : ℕ) (text : List ℕ) (i a : ℕ) {e : DigitRun} → length text ≡ i → a ≤ cap → run_from r a text i ≡ e → digit_run a (length text) ≡ e
walk_end r text i a q l g =
    let h : length text ≤ i = omega arith in
    ap (λ (n : ℕ). digit_run a n) q
    ∙ walk_last r text i a (ap (λ (z : List ℕ). value_from r a z) (drop_of_length-le text h) ∙ value_nil r a) (span_end (is_digit r) text i h) l g

-- ---- what they make of a field: one that ends with them, one that has none, one that goes on
digits_exact : (r a : ℕ) (s : List ℕ) → digits_from r a (take (span (is_digit r) s) s) ≡ Some (value_from r a s)
digits_exact r a [] =
    ap (λ (n : ℕ). digits_from r a (take n [])) (span_nil (is_digit r)) ∙ digits_nil r a ∙ ap Some (sym (value_nil r a))
digits_exact r a (c ∷ s) =
    by_bool (is_digit r c)
    (λ t.
    ap (λ (n : ℕ). digits_from r a (take n (c ∷ s))) (span_hit (is_digit r) c s t)
    ∙ digits_cons r a c (take (span (is_digit r) s) s) (ltb-true (digit_of c) r t)
    ∙ digits_exact r (a * r + digit_of c) s ∙ ap Some (sym (value_hit r a c s t)))
    (λ t.
    ap (λ (n : ℕ). digits_from r a (take n (c ∷ s))) (span_miss (is_digit r) c s t) ∙ digits_nil r a
    ∙ ap Some (sym (value_miss r a c s t)))

digits_longer : (r a k : ℕ) (s : List ℕ) → span (is_digit r) s < k → k ≤ length s → digits_from r a (take k s) ≡ None
digits_longer r a zero s h l = absurd (omega arith)
digits_longer r a (suc k) [] h l = absurd (omega arith)
digits_longer r a (suc k) (c ∷ s) h l =
    by_bool (is_digit r c)
    (λ t.
    let n : span (is_digit r) (c ∷ s) ≡ suc (span (is_digit r) s) = span_hit (is_digit r) c s t in
    let m : length (c ∷ s) ≡ suc (length s) = refl in
    digits_cons r a c (take k s) (ltb-true (digit_of c) r t) ∙ digits_longer r (a * r + digit_of c) k s (omega arith) (omega arith))
    (λ t. digits_other r a c (take k s) (ltb-false (digit_of c) r t))

module _ (r : ℕ) (s : List ℕ) where
  pub run_exact : 0 < span (is_digit r) s → run_of r (take (span (is_digit r) s) s) ≡ Some (value_from r 0 s)
  run_exact h =
      let l : length (take (span (is_digit r) s) s) ≡ span (is_digit r) s = length-take-le (span (is_digit r) s) s (span_le (is_digit r) s) in
      run_start r (take (span (is_digit r) s) s) (λ z. omega arith) ∙ digits_exact r 0 s

  pub run_none : span (is_digit r) s ≡ 0 → run_of r (take (span (is_digit r) s) s) ≡ None
  run_none e =
      run_empty r (take (span (is_digit r) s) s) (length-take-le (span (is_digit r) s) s (span_le (is_digit r) s) ∙ e)

  pub run_longer : (k : ℕ) → span (is_digit r) s < k → k ≤ length s → run_of r (take k s) ≡ None
  run_longer k h g =
      let l : length (take k s) ≡ k = length-take-le k s g in
      run_start r (take k s) (λ z. omega arith) ∙ digits_longer r 0 k s h g

module _ (s : List ℕ) where
  pub integer_exact : 0 < span (is_digit 10) s → integer_of (take (span (is_digit 10) s) s) ≡ Some (value_from 10 0 s)
  unfolding integer_of
  integer_exact h = run_exact 10 s h

  pub integer_none : span (is_digit 10) s ≡ 0 → integer_of (take (span (is_digit 10) s) s) ≡ None
  unfolding integer_of
  integer_none e = run_none 10 s e

  pub integer_longer : (k : ℕ) → span (is_digit 10) s < k → k ≤ length s → integer_of (take k s) ≡ None
  unfolding integer_of
  integer_longer k h g = run_longer 10 s k h g

-- ---- how large: n digits of radix r are below r ^ n
pub value_below : (r : ℕ) (s : List ℕ) → value_from r 0 s < r ^ span (is_digit r) s
value_below r s =
    let l : length (take (span (is_digit r) s) s) ≡ span (is_digit r) s = length-take-le (span (is_digit r) s) s (span_le (is_digit r) s) in
    let u : Under (1 * r ^ length (take (span (is_digit r) s) s)) (digits_from r 0 (take (span (is_digit r) s) s)) =
    digits_under r (take (span (is_digit r) s) s) 0 1 (omega arith) in
    subst (λ (n : ℕ). value_from r 0 s < n) (one-mul (r ^ length (take (span (is_digit r) s) s)) ∙ ap (λ (n : ℕ). r ^ n) l)
    (subst (λ (i : Option ℕ). Under (1 * r ^ length (take (span (is_digit r) s) s)) i) (digits_exact r 0 s) u)

pub hex_two : (s : List ℕ) → span (is_digit 16) s ≤ 2 → value_from 16 0 s < 256
hex_two s h =
    let b : value_from 16 0 s < 16 ^ span (is_digit 16) s = value_below 16 s in
    let k : 16 ^ span (is_digit 16) s ≤ 16 ^ 2 = pow-le-pow_right (omega arith) h in
    omega arith

pub hex_four : (s : List ℕ) → span (is_digit 16) s ≤ 4 → value_from 16 0 s < 65536
hex_four s h =
    let b : value_from 16 0 s < 16 ^ span (is_digit 16) s = value_below 16 s in
    let k : 16 ^ span (is_digit 16) s ≤ 16 ^ 4 = pow-le-pow_right (omega arith) h in
    omega arith
