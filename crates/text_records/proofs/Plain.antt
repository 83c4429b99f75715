-- Plain characters: each of them is a record's character and is kept, so that a scan for a record's end may start behind them, and a record
-- of them alone is its own text. By a character's tests, and by induction on the characters.
-- Assumes nothing.
use mathlib.Core.Path.{◌≡◌, refl, sym, ap, ◌∙◌}
use mathlib.Core.Bool.{Bool, true, false, cond, not, ◌||◌, ◌&&◌}
use mathlib.Core.List.{List, [], ◌∷◌}
use Prim.Native.Nat.{ℕ, suc, ◌+◌, ◌-◌, ◌≤◌, ◌<◌}
use native.Mathlib.Omega.{arith}
use lib.Dec.{eqb, ltb, leb}
use lib.ListN.{length, get_or, take, drop, length-drop, length-take}
use lib.Seq.{drop-drop, get_or-take, length-take-le}
use borrow.Author.Tests.{lt-ltb, le-ltb, lt-leb, le-leb, eq-eqb, ne_eqb, ltb-true, ltb-false, leb-false, not-true, not-false}
use Rattle.cells.specs.Scan.{span}
use Rattle.cells.proofs.Scan.{span_past, span_stop, span_below, span_le, span_within}
use Rattle.cells.proofs.Split.{by_test, by_lt, by_eq, cond-false, and_true, and_false_left, and_false_right, or_true_left, or_true_right, or_false, or_left, or_right, or_none, not_of_true, not_of_false}
use Rattle.text_records.specs.Stream.{CR, LF, is_end, is_text, record_end}
use Rattle.text_records.specs.Cleaning.{is_high, is_control, is_mark, has, kept_of}
use Rattle.text_records.specs.Window.{is_special, is_graphic, is_plain, all_plain_of, plain_end}
use Rattle.text_records.proofs.Cleaning.{has_none, none_has, kept_this}

-- ---- one character, as the code tests it
pub special_is : (c : ℕ) → is_special c ≡ cond (ltb 33 c) (leb 127 c) (not (eqb c 32))
unfolding is_special
special_is c =
    by_test (λ (b : Bool). is_special c ≡ b) (ltb 33 c) (leb 127 c) (not (eqb c 32))
    (λ t.
    let h : 33 < c = ltb-true 33 c t in
    ap (λ (b : Bool). b || (leb 127 c || eqb c 33)) (le-ltb c 32 (omega arith))
    ∙ ap (λ (b : Bool). leb 127 c || b) (ne_eqb c 33 (omega arith)) ∙ or_none (leb 127 c))
    (λ t.
    let h : c ≤ 33 = ltb-false 33 c t in
    by_lt c 32
    (λ l. or_true_left (ltb c 32) (leb 127 c || eqb c 33) (lt-ltb c 32 l) ∙ sym (not_of_false (eqb c 32) (ne_eqb c 32 (omega arith))))
    (λ l. by_eq c 32
    (λ e.
    or_false (ltb c 32) (leb 127 c || eqb c 33) (le-ltb c 32 l)
    (or_false (leb 127 c) (eqb c 33) (lt-leb 127 c (omega arith)) (ne_eqb c 33 (omega arith)))
    ∙ sym (not_of_true (eqb c 32) (eq-eqb c 32 e)))
    (λ ne.
    or_true_right (ltb c 32) (leb 127 c || eqb c 33) (or_true_right (leb 127 c) (eqb c 33) (eq-eqb c 33 (omega arith)))
    ∙ sym (not_of_false (eqb c 32) (ne_eqb c 32 ne)))))

-- special exactly if it is neither graphic nor a space
pub special_neither : (c : ℕ) → is_special c ≡ (not (is_graphic c) && not (eqb c 32))
unfolding is_graphic
special_neither c =
    by_lt 33 c
    (λ h. by_lt c 127
    (λ l. simp (special_is c, lt-ltb 33 c h, lt-ltb c 127 l, lt-leb 127 c l))
    (λ l. simp (special_is c, lt-ltb 33 c h, le-ltb c 127 l, le-leb 127 c l, ne_eqb c 32 (omega arith))))
    (λ h. simp (special_is c, le-ltb 33 c h))

module _ (c : ℕ) {g : Bool} (e : g ≡ is_graphic c) where
  pub graphic_plain : not g ≡ false → is_plain c ≡ true
  graphic_plain f = not_of_false (is_special c) (special_neither c ∙ and_false_left (not (is_graphic c)) (not (eqb c 32)) (ap not (sym e) ∙ f))

  pub neither_special : not g ≡ true → (c ≡ 32 → ⊥) → is_plain c ≡ false
  neither_special t n =
      not_of_true (is_special c)
      (special_neither c ∙ and_true (not (is_graphic c)) (not (eqb c 32)) (ap not (sym e) ∙ t) (not_of_false (eqb c 32) (ne_eqb c 32 n)))

pub space_plain : (c : ℕ) → c ≡ 32 → is_plain c ≡ true
space_plain c e =
    not_of_false (is_special c)
    (special_neither c ∙ and_false_right (not (is_graphic c)) (not (eqb c 32)) (not_of_true (eqb c 32) (eq-eqb c 32 e)))

pub plain_all : (s : List ℕ) {b : Bool} → b ≡ has is_special s → not b ≡ all_plain_of s
unfolding all_plain_of
plain_all s e = ap not e

-- ---- a plain character
module _ (c : ℕ) (e : is_special c ≡ false) where
  abbrev rest : Bool
  rest = leb 127 c || eqb c 33

  above : 32 ≤ c
  unfolding is_special
  above = ltb-false c 32 (or_left (ltb c 32) rest e)

  below : c < 127
  unfolding is_special
  below = leb-false 127 c (or_left (leb 127 c) (eqb c 33) (or_right (ltb c 32) rest e))

  char_mark : is_mark c ≡ false
  unfolding is_special is_mark
  char_mark = or_right (leb 127 c) (eqb c 33) (or_right (ltb c 32) rest e)

  char_high : is_high c ≡ false
  unfolding is_high
  char_high = lt-leb 128 c (omega (arith, below))

  char_control : is_control c ≡ false
  unfolding is_control
  char_control =
      cond-false (ltb c 32) (not (eqb c 9)) (eqb c 127) (le-ltb c 32 above) ∙ ne_eqb c 127 (omega (arith, below))

  char_text : is_text c ≡ true
  unfolding is_end
  char_text =
      not_of_false (is_end c) (or_false (eqb c CR) (eqb c LF) (ne_eqb c CR (omega (arith, above))) (ne_eqb c LF (omega (arith, above))))

-- ---- a record of plain characters
abbrev All : List ℕ → Type 0
All xs = (k : ℕ) → k < length xs → is_special (get_or xs k 0) ≡ false

kept_same : (xs : List ℕ) → All xs → kept_of xs ≡ xs
unfolding kept_of
kept_same [] f = refl
kept_same (c ∷ cs) f =
    let e : is_special c ≡ false = f 0 (omega arith) in
    kept_this c cs (char_high c e) (char_control c e) (char_mark c e)
    ∙ ap (λ (r : List ℕ). c ∷ r) (kept_same cs (λ k h. f (suc k) (omega arith)))

-- ---- where they end
pub plain_from : (s : List ℕ) (at : ℕ) → at ≤ plain_end s at
plain_from s at = omega arith

pub plain_within : (s : List ℕ) (at : ℕ) → at ≤ length s → plain_end s at ≤ length s
plain_within s at h = span_within is_plain s at h

-- each of them is plain
plain_below : (s : List ℕ) (at k : ℕ) → k < span is_plain (drop at s) → is_special (get_or (drop at s) k 0) ≡ false
plain_below s at k h = not-true (is_special (get_or (drop at s) k 0)) (span_below is_plain (drop at s) k h)

-- a record's end is found from there on
pub plain_end_lem : (s : List ℕ) (at : ℕ) → record_end s (plain_end s at) ≡ record_end s at
plain_end_lem s at =
    let n = span is_plain (drop at s) in
    let e : span is_text (drop at s) ≡ n + span is_text (drop n (drop at s)) =
    span_past is_text (drop at s) n (span_le is_plain (drop at s)) (λ k h. char_text (get_or (drop at s) k 0) (plain_below s at k h)) in
    let f : span is_text (drop n (drop at s)) ≡ span is_text (drop (at + n) s) = ap (λ (z : List ℕ). span is_text z) (drop-drop n at s) in
    omega arith

-- a block that is plain is passed over
pub plain_past : (s : List ℕ) (at k : ℕ) → at + k ≤ length s → all_plain_of (take k (drop at s)) ≡ true → plain_end s (at + k) ≡ plain_end s at
unfolding all_plain_of
plain_past s at k h e =
    let l : length (drop at s) ≡ length s - at = length-drop at s in
    let g : k ≤ length (drop at s) = omega arith in
    let m : length (take k (drop at s)) ≡ k = length-take-le k (drop at s) g in
    let a : span is_plain (drop at s) ≡ k + span is_plain (drop k (drop at s)) =
    span_past is_plain (drop at s) k g (λ j i.
    not_of_false (is_special (get_or (drop at s) j 0))
    (ap is_special (sym (get_or-take k (drop at s) j 0 i))
    ∙ none_has is_special (take k (drop at s)) (not-true (has is_special (take k (drop at s))) e) j (omega arith))) in
    let b : span is_plain (drop k (drop at s)) ≡ span is_plain (drop (at + k) s) = ap (λ (z : List ℕ). span is_plain z) (drop-drop k at s) in
    omega arith

-- as the code has it: the block from `at` to `at + k`
pub block_past : (s : List ℕ) (at k : ℕ) {b : Bool} {a : ℕ} → at + k ≤ length s → b ≡ all_plain_of (take (at + k - at) (drop at s)) → not b ≡ false
    → plain_end s at ≡ a → plain_end s (at + k) ≡ a
block_past s at k {b} h e f g =
    let n : at + k - at ≡ k = omega arith in
    plain_past s at k h (ap (λ (j : ℕ). all_plain_of (take j (drop at s))) (sym n) ∙ sym e ∙ not-false b f) ∙ g

-- ---- what callers cite, with the places as the code has them: the scan for the end starts at `first`
pub plain_turn : (s : List ℕ) (at : ℕ) {n a : ℕ} → n ≡ plain_end s at → record_end s at ≡ a → record_end s n ≡ a
plain_turn s at e h = ap (λ (k : ℕ). record_end s k) e ∙ plain_end_lem s at ∙ h

pub end_is : (s : List ℕ) (at : ℕ) {first end : ℕ} → first ≡ plain_end s at → end ≡ record_end s first → end ≡ record_end s at
end_is s at e f = f ∙ ap (λ (k : ℕ). record_end s k) e ∙ plain_end_lem s at

-- a record that is plain to its end
module _ (s : List ℕ) (at : ℕ) {first end : ℕ} (e : first ≡ plain_end s at) (g : first ≡ end) where
  abbrev chars : List ℕ
  chars = take (end - at) (drop at s)

  all_plain : All chars
  all_plain k h =
      let l : length chars ≤ end - at = omega (arith, length-take (end - at) (drop at s)) in
      let i : k < end - at = omega arith in
      let j : k < span is_plain (drop at s) = omega arith in
      ap is_special (get_or-take (end - at) (drop at s) k 0 i) ∙ plain_below s at k j

  pub plain_kept : kept_of chars ≡ chars
  plain_kept = kept_same chars all_plain

  pub plain_high : has is_high chars ≡ false
  plain_high = has_none is_high chars (λ k h. char_high (get_or chars k 0) (all_plain k h))

  pub plain_control : has is_control chars ≡ false
  plain_control = has_none is_control chars (λ k h. char_control (get_or chars k 0) (all_plain k h))

-- ---- an empty record
pub end_here : (s : List ℕ) (at : ℕ) → at < length s → is_end (get_or s at 0) ≡ true → record_end s at ≡ at
end_here s at h e =
    let z : span is_text (drop at s) ≡ 0 = span_stop is_text s at h refl (not_of_true (is_end (get_or s at 0)) e) in
    omega arith
