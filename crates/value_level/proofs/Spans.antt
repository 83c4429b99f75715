-- Levels read in the scan that finds their end: each reader's answer as its definition has it, and what the characters make of a field that ends
-- with them or goes on. By cases on the tests, and by the laws of digit runs.
-- Assumes nothing.
use Rattle.std.specs.Prelude.{Err, Ok, Result}
use mathlib.Core.Path.{◌≡◌, refl, sym, ap, ◌∙◌, subst}
use mathlib.Core.Bool.{true, false, cond, ◌||◌}
use mathlib.Core.List.{List, [], ◌∷◌}
use Prim.Native.Nat.{ℕ, zero, suc, ◌+◌, ◌-◌, ◌/◌, ◌<◌, ◌≤◌, min, suc-le-suc}
use native.Mathlib.Nat.{add-zero}
use native.Mathlib.Numerals.{add-one}
use native.Mathlib.Omega.{arith}
use lib.ListN.{length, get_or, take, drop, get_or-eq_default}
use lib.Seq.{drop-cons, get_or-drop, length-take-le}
use borrow.Author.Tests.{lt-ltb, le-ltb, le-leb, lt-leb, ne_eqb}
use Rattle.cells.proofs.Split.{by_bool, by_lt, by_le, by_eq, cond-true, cond-false, clash, or_true_left, or_true_right}
use Rattle.cells.proofs.Scan.{span_le, span_below}
use Rattle.value.specs.declared.DigitRun.{DigitRun}
use Rattle.value.specs.Integer.{integer_of}
use Rattle.value.specs.Digits.{is_digit, value_from, digits_at}
use Rattle.value.proofs.Digits.{run_empty}
use Rattle.value.proofs.Runs.{run_value, run_end, decimal_hex, run_exact, run_longer, integer_exact, integer_none, integer_longer, hex_two, hex_four}
use Rattle.value_level.specs.declared.Leveling.{Leveling}
use Rattle.value_level.specs.Level.{percent_byte, percent_max, percent_of, hex_digits, hex_of, is_hex_mark, level_of}
use Rattle.value_level.specs.Run.{decimals, hexes, level_span, HexFits, hex_by, percent_leveling, hex_leveling, leveling_at}
use Rattle.value_level.proofs.Levels.{percent_malformed, percent_large, percent_min, hex_long, hex_read, hex_malformed, hex_byte, hex_upper, level_hex, level_percent}
use Rattle.value_level.specs.declared.LevelError.{LevelError}
use Rattle.value_level.specs.declared.LevelError.TheVariants.{NotPercent, NotHex}

abbrev pub leveling : Result ℕ LevelError → ℕ → Leveling
leveling l n = record { level = l; end = n }

-- ---- a percentage, from the digits as the code has them
percent_leveling_lem : (text : List ℕ) (at : ℕ) (d : DigitRun) {l : Result ℕ LevelError} → d ≡ digits_at 10 text at
    → percent_of (integer_of (take (decimals (drop at text)) (drop at text))) ≡ l → leveling l d.end ≡ percent_leveling text at
unfolding percent_leveling digits_at
percent_leveling_lem text at d {l} e f =
    ap (λ (x : DigitRun). leveling l x.end) e ∙ ap (λ (x : Result ℕ LevelError). leveling x (at + decimals (drop at text))) (sym f)

module _ (text : List ℕ) (at : ℕ) (d : DigitRun) (e : d ≡ digits_at 10 text at) where
  some : (d.end ≡ at → ⊥) → 0 < decimals (drop at text)
  some f =
      let q : d.end ≡ at + decimals (drop at text) = run_end 10 text at e in
      by_lt 0 (decimals (drop at text)) (λ h. h) (λ h. absurd (f (omega arith)))

  pub percent_none : d.end ≡ at → leveling (Err NotPercent) d.end ≡ percent_leveling text at
  percent_none f =
      let q : d.end ≡ at + decimals (drop at text) = run_end 10 text at e in
      let z : decimals (drop at text) ≡ 0 = omega arith in
      percent_leveling_lem text at d e (percent_malformed (integer_none (drop at text) z))

  pub percent_over : (d.end ≡ at → ⊥) → percent_max < d.value → leveling (Err NotPercent) d.end ≡ percent_leveling text at
  percent_over f h =
      percent_leveling_lem text at d e
      (percent_large (integer_exact (drop at text) (some f)) (subst (λ (v : ℕ). percent_max < v) (run_value 10 text at e) h))

  pub percent_taken : {b : ℕ} → (d.end ≡ at → ⊥) → d.value ≤ percent_max → b ≡ percent_byte (min d.value 100)
      → leveling (Ok b) d.end ≡ percent_leveling text at
  percent_taken f h i =
      percent_leveling_lem text at d e
      (percent_min (integer_exact (drop at text) (some f)) (subst (λ (v : ℕ). v ≤ percent_max) (run_value 10 text at e) h)
      ∙ ap (λ (v : ℕ). Ok (percent_byte (min v 100))) (sym (run_value 10 text at e)) ∙ ap Ok (sym i))

-- ---- hexadecimal digits, of which there are n
pub hex_by_none : (v : ℕ) → hex_by 0 v ≡ Err NotHex
unfolding hex_by
hex_by_none v = refl

module _ (n v : ℕ) where
  pub hex_by_many : (n ≡ 0 → ⊥) → hex_digits < n → (Err NotHex) ≡ hex_by n v
  unfolding hex_by
  hex_by_many f h = rw (ne_eqb n 0 f, lt-ltb hex_digits n h)

  pub hex_by_two : (n ≡ 0 → ⊥) → n ≤ hex_digits → n ≤ 2 → Ok v ≡ hex_by n v
  unfolding hex_by
  hex_by_two f h g = rw (ne_eqb n 0 f, le-ltb hex_digits n h, le-leb n 2 g)

  pub hex_by_four : (n ≡ 0 → ⊥) → n ≤ hex_digits → 2 < n → Ok (v / 256) ≡ hex_by n v
  unfolding hex_by
  hex_by_four f h g = rw (ne_eqb n 0 f, le-ltb hex_digits n h, lt-leb n 2 g)

hex_by_is : (s : List ℕ) → hex_by (hexes s) (value_from 16 0 s) ≡ hex_of (take (hexes s) s)
hex_by_is s =
    let t : List ℕ = take (hexes s) s in
    let n : length t ≡ hexes s = length-take-le (hexes s) s (span_le (is_digit 16) s) in
    by_eq (hexes s) 0
    (λ e.
    let l : length t ≤ hex_digits = omega arith in
    ap (λ (k : ℕ). hex_by k (value_from 16 0 s)) e ∙ hex_by_none (value_from 16 0 s)
    ∙ sym (hex_read t l ∙ hex_malformed (length t) (run_empty 16 t (n ∙ e))))
    (λ f.
    let p : 0 < hexes s = omega arith in
    by_le (hexes s) hex_digits
    (λ h.
    let l : length t ≤ hex_digits = omega arith in
    by_le (hexes s) 2
    (λ g.
    let m : length t ≤ 2 = omega arith in
    sym (hex_by_two (hexes s) (value_from 16 0 s) f h g) ∙ sym (hex_read t l ∙ hex_byte (length t) (run_exact 16 s p) m))
    (λ g.
    let m : 2 < length t = omega arith in
    sym (hex_by_four (hexes s) (value_from 16 0 s) f h g) ∙ sym (hex_read t l ∙ hex_upper (length t) (run_exact 16 s p) m)))
    (λ h.
    let l : hex_digits < length t = omega arith in
    sym (hex_by_many (hexes s) (value_from 16 0 s) f h) ∙ sym (hex_long t l)))

module _ (text : List ℕ) (at : ℕ) (d : DigitRun) (e : d ≡ digits_at 16 text at) where
  hex_value : d.value ≡ value_from 16 0 (drop at text)
  unfolding digits_at
  hex_value = ap (λ (x : DigitRun). x.value) e

  hex_end : d.end ≡ at + hexes (drop at text)
  unfolding digits_at
  hex_end = ap (λ (x : DigitRun). x.end) e

  pub hex_after : at ≤ d.end
  hex_after = let q : d.end ≡ at + hexes (drop at text) = hex_end in omega arith

  hex_count : d.end - at ≡ hexes (drop at text)
  hex_count = let q : d.end ≡ at + hexes (drop at text) = hex_end in omega arith

  pub hex_fits : HexFits (d.end - at) d.value
  hex_fits = record {
    four = λ h. subst (λ (v : ℕ). v < 65536) (sym hex_value) (hex_four (drop at text) (subst (λ (n : ℕ). n ≤ hex_digits) hex_count h));
    two = λ h. subst (λ (v : ℕ). v < 256) (sym hex_value) (hex_two (drop at text) (subst (λ (n : ℕ). n ≤ 2) hex_count h));
  }

  pub hex_leveling_lem : {l : Result ℕ LevelError} → l ≡ hex_by (d.end - at) d.value → leveling l d.end ≡ hex_leveling text at
  unfolding hex_leveling
  hex_leveling_lem {l} f =
      ap (λ (x : Result ℕ LevelError). leveling x d.end)
      (f ∙ ap (λ (n : ℕ). hex_by n d.value) hex_count ∙ ap (λ (v : ℕ). hex_by (hexes (drop at text)) v) hex_value ∙ hex_by_is (drop at text))
      ∙ ap (λ (n : ℕ). leveling (hex_of (take (hexes (drop at text)) (drop at text))) n) hex_end

-- ---- the two formats told apart at the first character
pub mark_within : (text : List ℕ) (at : ℕ) → is_hex_mark (get_or text at 0) ≡ true → at < length text
mark_within text at e =
    by_lt at (length text) (λ h. h) (λ h. clash e (ap is_hex_mark (get_or-eq_default text 0 h)))

span_hex : (s : List ℕ) → is_hex_mark (get_or s 0 0) ≡ true → level_span s ≡ suc (hexes (drop 1 s))
unfolding level_span
span_hex s e = cond-true (is_hex_mark (get_or s 0 0)) (suc (hexes (drop 1 s))) (decimals s) e

span_percent : (s : List ℕ) → is_hex_mark (get_or s 0 0) ≡ false → level_span s ≡ decimals s
unfolding level_span
span_percent s e = cond-false (is_hex_mark (get_or s 0 0)) (suc (hexes (drop 1 s))) (decimals s) e

-- of a front too
no_mark : (s : List ℕ) (k : ℕ) → is_hex_mark (get_or s 0 0) ≡ false → is_hex_mark (get_or (take k s) 0 0) ≡ false
no_mark s zero e = refl
no_mark [] (suc k) e = refl
no_mark (c ∷ s) (suc k) e = e

hex_front : (c : ℕ) (s : List ℕ) → is_hex_mark c ≡ true
    → leveling (level_of (take (level_span (c ∷ s)) (c ∷ s))) (level_span (c ∷ s)) ≡ leveling (hex_of (take (hexes s) s)) (suc (hexes s))
hex_front c s e =
    ap (λ (n : ℕ). leveling (level_of (take n (c ∷ s))) n) (span_hex (c ∷ s) e)
    ∙ ap (λ (l : Result ℕ LevelError). leveling l (suc (hexes s))) (level_hex (c ∷ take (hexes s) s) e)

pub level_hex_at : (text : List ℕ) (at : ℕ) {l : Leveling}
    → is_hex_mark (get_or text at 0) ≡ true → l ≡ hex_leveling text (at + 1) → l ≡ leveling_at text at
unfolding hex_leveling leveling_at
level_hex_at text at e f =
    let h : at < length text = mark_within text at e in
    let c : ℕ = get_or text at 0 in
    let t : List ℕ = drop (suc at) text in
    let q : at + 1 + hexes t ≡ at + suc (hexes t) = omega arith in
    f ∙ ap (λ (k : ℕ). leveling (hex_of (take (hexes (drop k text)) (drop k text))) (at + 1 + hexes (drop k text))) (add-one at)
    ∙ ap (λ (n : ℕ). leveling (hex_of (take (hexes t) t)) n) q
    ∙ ap (λ (x : Leveling). leveling x.level (at + x.end)) (sym (hex_front c t e))
    ∙ ap (λ (z : List ℕ). leveling (level_of (take (level_span z) z)) (at + level_span z)) (sym (drop-cons text at 0 h))

pub level_percent_at : (text : List ℕ) (at : ℕ) {l : Leveling}
    → is_hex_mark (get_or text at 0) ≡ false → l ≡ percent_leveling text at → l ≡ leveling_at text at
unfolding percent_leveling leveling_at
level_percent_at text at e f =
    let s : List ℕ = drop at text in
    let m : is_hex_mark (get_or s 0 0) ≡ false = ap is_hex_mark (get_or-drop at text 0 0 ∙ ap (λ (k : ℕ). get_or text k 0) (add-zero at)) ∙ e in
    f ∙ ap (λ (l : Result ℕ LevelError). leveling l (at + decimals s)) (sym (level_percent (take (decimals s) s) (no_mark s (decimals s) m)))
    ∙ ap (λ (n : ℕ). leveling (level_of (take n s)) (at + n)) (sym (span_percent s m))

-- ---- what the characters are
pub level_span_le : (s : List ℕ) → level_span s ≤ length s
level_span_le [] = let e : level_span [] ≡ decimals [] = span_percent [] refl in let h : decimals [] ≤ 0 = span_le (is_digit 10) [] in omega arith
level_span_le (c ∷ s) =
    by_bool (is_hex_mark c)
    (λ e. subst (λ (n : ℕ). n ≤ length (c ∷ s)) (sym (span_hex (c ∷ s) e)) (suc-le-suc (span_le (is_digit 16) s)))
    (λ e. subst (λ (n : ℕ). n ≤ length (c ∷ s)) (sym (span_percent (c ∷ s) e)) (span_le (is_digit 10) (c ∷ s)))

pub level_chars : (s : List ℕ) (k : ℕ) → k < level_span s → (is_hex_mark (get_or s k 0) || is_digit 16 (get_or s k 0)) ≡ true
level_chars s k h =
    by_bool (is_hex_mark (get_or s 0 0))
    (λ e. chars_hex s k e (subst (λ (n : ℕ). k < n) (span_hex s e) h))
    (λ e. or_true_right (is_hex_mark (get_or s k 0)) (is_digit 16 (get_or s k 0))
    (decimal_hex (get_or s k 0) (span_below (is_digit 10) s k (subst (λ (n : ℕ). k < n) (span_percent s e) h))))
  where
    chars_hex : (s : List ℕ) (k : ℕ) → is_hex_mark (get_or s 0 0) ≡ true → k < suc (hexes (drop 1 s))
        → (is_hex_mark (get_or s k 0) || is_digit 16 (get_or s k 0)) ≡ true
    chars_hex s zero e g = or_true_left (is_hex_mark (get_or s 0 0)) (is_digit 16 (get_or s 0 0)) e
    chars_hex [] (suc k) e g = absurd (let z : k < hexes [] = omega arith in let y : hexes [] ≤ 0 = span_le (is_digit 16) [] in omega arith)
    chars_hex (c ∷ s) (suc k) e g =
        or_true_right (is_hex_mark (get_or s k 0)) (is_digit 16 (get_or s k 0)) (span_below (is_digit 16) s k (let z : k < hexes s = omega arith in z))

-- ---- a field that goes on with what no level has is malformed in the format that it begins with
hex_longer : (s : List ℕ) (k : ℕ) → hexes s < k → k ≤ length s → hex_of (take k s) ≡ Err NotHex
hex_longer s k h g =
    by_le (length (take k s)) hex_digits
    (λ l. hex_read (take k s) l ∙ hex_malformed (length (take k s)) (run_longer 16 s k h g))
    (λ l. hex_long (take k s) l)

longer_hex : (s : List ℕ) (k : ℕ) → is_hex_mark (get_or s 0 0) ≡ true → suc (hexes (drop 1 s)) < k → k ≤ length s → level_of (take k s) ≡ Err NotHex
longer_hex s zero e h g = absurd (omega arith)
longer_hex [] (suc k) e h g = absurd (omega arith)
longer_hex (c ∷ s) (suc k) e h g =
    let a : hexes s < k = omega arith in
    let n : length (c ∷ s) ≡ suc (length s) = refl in
    let b : k ≤ length s = omega arith in
    level_hex (c ∷ take k s) e ∙ hex_longer s k a b

pub level_longer : (s : List ℕ) (k : ℕ) → level_span s < k → k ≤ length s → level_of (take k s) ≡ cond (is_hex_mark (get_or s 0 0)) (Err NotHex) (Err NotPercent)
level_longer s k h g =
    by_bool (is_hex_mark (get_or s 0 0))
    (λ e.
    longer_hex s k e (subst (λ (n : ℕ). n < k) (span_hex s e) h) g
    ∙ sym (cond-true (is_hex_mark (get_or s 0 0)) (Err NotHex) (Err NotPercent) e))
    (λ e.
    level_percent (take k s) (no_mark s k e)
    ∙ percent_malformed (integer_longer s k (subst (λ (n : ℕ). n < k) (span_percent s e) h) g)
    ∙ sym (cond-false (is_hex_mark (get_or s 0 0)) (Err NotHex) (Err NotPercent) e))
