-- Reading undoes writing, for every value in range; by induction on the digits, and by the shapes of the texts.
-- Assumes nothing.
use Rattle.std.specs.Prelude.{Ok, Some}
use mathlib.Core.Path.{◌≡◌, refl, sym, ap, ◌∙◌, subst}
use mathlib.Core.Bool.{true}
use mathlib.Core.List.{List, [], ◌∷◌, ◌++◌, append-nil}
use Prim.Native.Nat.{ℕ, zero, suc, ◌+◌, ◌-◌, ◌*◌, ◌/◌, ◌%◌, ◌^◌, ◌<◌, ◌≤◌, min, max}
use native.Mathlib.Nat.{mod-lt, pow-zero, pow-suc, mul-one, mul_assoc, add-mul, add_assoc, zero-mul, zero-add, div-add-mod', div-lt_iff_lt-mul, pow-le-pow_right, le_trans}
use native.Mathlib.Omega.{arith}
use lib.Dec.{eqb}
use lib.ListN.{length}
use borrow.Author.Tests.{ne_eqb}
use Rattle.cells.specs.Scan.{span}
use Rattle.cells.proofs.Split.{by_lt, by_eq, not_of_false}
use Rattle.value.specs.Integer.{cap, digit_of, digits_from, run_of, integer_of}
use Rattle.value.specs.Parts.{point, colon, is_other}
use Rattle.value.specs.Number.{whole_max, fraction_digits, fraction_max, number, number_of}
use Rattle.value.specs.Time.{part_max, tenths_digits, clock_max, time_max, part_of, clock_of, time_of}
use Rattle.value.specs.Field.{page_of}
use Rattle.value_level.specs.Level.{hex_digits, level_of}
use Rattle.value.proofs.Digits.{digit_decimal, digit_capital, digits_nil, digits_cons, run_start}
use Rattle.value.proofs.Numbers.{number_good, page_good, page_is}
use Rattle.value.proofs.Times.{part_good, part_is, join_good}
use Rattle.value.proofs.Splits.{number_whole, number_parts, time_whole, time_parts, clock_whole, clock_parts, later_whole, later_parts}
use Rattle.value_level.proofs.Levels.{hex_read, hex_byte, level_hex}
use Rattle.value_written.specs.Text.{digit_char, digits_on, digits_text, digit_count, integer_text, number_text, level_text, part_text, whole_in, left_by, clock_text, time_text}
use Rattle.value_written.proofs.Texts.{char_decimal, char_capital, text_length, integer_enough, integer_count, fraction_none, fraction_some, decimals_all, integer_all, clock_all, whole_max_lem, clock_left, hours_whole, clock_seconds, clock_minutes, clock_hours}

-- ---- digits
pub char_read : (d : ℕ) → d < 16 → digit_of (digit_char d) ≡ d
char_read d h =
    by_lt d 10
    (λ l.
    let a : 48 ≤ 48 + d = omega arith in
    let b : 48 + d ≤ 57 = omega arith in
    let e : 48 + d - 48 ≡ d = omega arith in
    ap digit_of (char_decimal d l) ∙ digit_decimal (48 + d) a b ∙ e)
    (λ l.
    let a : 65 ≤ 55 + d = omega arith in
    let b : 55 + d ≤ 70 = omega arith in
    let e : 55 + d - 55 ≡ d = omega arith in
    ap digit_of (char_capital d l) ∙ digit_capital (55 + d) a b ∙ e)

-- k digits of n, read behind a, count a * r ^ k + n
module _ (r : ℕ) (z : 0 < r) (h : r ≤ 16) where
  value_step : (a n k : ℕ) → (a * r ^ k + n / r) * r + n % r ≡ a * r ^ suc k + n
  value_step a n k =
      ap (λ (x : ℕ). x + n % r) (add-mul (a * r ^ k) (n / r) r)
      ∙ add_assoc (a * r ^ k * r) (n / r * r) (n % r)
      ∙ ap (λ (x : ℕ). a * r ^ k * r + x) (div-add-mod' n r)
      ∙ ap (λ (x : ℕ). x + n) (mul_assoc a (r ^ k) r ∙ ap (λ (x : ℕ). a * x) (sym (pow-suc r k)))

  digits_read : (k n a : ℕ) (rest : List ℕ) → n < r ^ k → digits_from r a (digits_on r k n rest) ≡ digits_from r (a * r ^ k + n) rest
  unfolding digits_on
  digits_read zero n a rest g =
      let b : n < 1 = subst (λ (x : ℕ). n < x) (pow-zero r) g in
      let e : n ≡ 0 = omega arith in
      let f : a * r ^ zero ≡ a = ap (λ (x : ℕ). a * x) (pow-zero r) ∙ mul-one a in
      let q : a ≡ a * r ^ zero + n = omega arith in
      ap (λ (x : ℕ). digits_from r x rest) q
  digits_read (suc k) n a rest g =
      let m : n % r < r = mod-lt n z in
      let l : n % r < 16 = omega arith in
      let c : digit_of (digit_char (n % r)) ≡ n % r = char_read (n % r) l in
      let b : n / r < r ^ k = (div-lt_iff_lt-mul z).1 (subst (λ (x : ℕ). n < x) (pow-suc r k) g) in
      digits_read k (n / r) a (digit_char (n % r) ∷ rest) b
      ∙ digits_cons r (a * r ^ k + n / r) (digit_char (n % r)) rest (subst (λ (x : ℕ). x < r) (sym c) m)
      ∙ ap (λ (x : ℕ). digits_from r ((a * r ^ k + n / r) * r + x) rest) c
      ∙ ap (λ (x : ℕ). digits_from r x rest) (value_step a n k)

  -- a run of k digits has its number
  pub run_read : (k n : ℕ) → 0 < k → n < r ^ k → n ≤ cap → run_of r (digits_text r k n) ≡ Some n
  run_read k n s g l =
      let t : length (digits_text r k n) ≡ k = text_length r k n in
      let e : 0 * r ^ k + n ≡ n = ap (λ (x : ℕ). x + n) (zero-mul (r ^ k)) ∙ zero-add n in
      let f : min n cap ≡ n = omega arith in
      run_start r (digits_text r k n) (λ (q : length (digits_text r k n) ≡ 0). omega arith)
      ∙ digits_read k n 0 [] g
      ∙ ap (λ (x : ℕ). digits_from r x []) e ∙ digits_nil r n ∙ ap Some f

-- ---- integers
pub fixed_read : (k n : ℕ) → 0 < k → n < 10 ^ k → n ≤ cap → integer_of (digits_text 10 k n) ≡ Some n
unfolding integer_of
fixed_read k n s g l = run_read 10 (omega arith) (omega arith) k n s g l

pub integer_read : (n : ℕ) → n ≤ cap → integer_of (integer_text n) ≡ Some n
unfolding integer_text
integer_read n l =
    let e : n < 10 ^ 10 = (let m : n < 10000000000 = omega arith in m) in
    fixed_read (digit_count n) n (integer_count n) (integer_enough n e) l

pub page_read : (limit n : ℕ) → 1 ≤ n → n ≤ limit → n ≤ cap → page_of limit (integer_text n) ≡ Some n
page_read limit n a b l =
    sym (page_is limit (integer_text n) refl)
    ∙ page_good limit (integer_read n l) (λ (e : n ≡ 0). omega arith) b

-- ---- numbers
no_point : (c : ℕ) → 48 ≤ c → c ≤ 57 → is_other point c ≡ true
no_point c g h = not_of_false (eqb c point) (ne_eqb c point (λ (e : c ≡ point). omega arith))

no_colon : (c : ℕ) → 48 ≤ c → c ≤ 57 → is_other colon c ≡ true
no_colon c g h = not_of_false (eqb c colon) (ne_eqb c colon (λ (e : c ≡ colon). omega arith))

pub number_text_none : (w f : ℕ) → f ≡ 0 → number_text w f ≡ integer_text w
unfolding number_text
number_text_none w f e = ap (λ (z : List ℕ). integer_text w ++ z) (fraction_none fraction_digits f e) ∙ append-nil (integer_text w)

number_text_some : (w f : ℕ) → (f ≡ 0 → ⊥) → number_text w f ≡ integer_text w ++ (point ∷ digits_text 10 fraction_digits f)
unfolding number_text
number_text_some w f e = ap (λ (z : List ℕ). integer_text w ++ z) (fraction_some fraction_digits f e)

pub number_read : (w f : ℕ) → w ≤ whole_max → f ≤ fraction_max → (w + f ≡ 0 → ⊥) → number_of (number_text w f) ≡ Ok (number w f)
number_read w f a b z =
    let xs : List ℕ = integer_text w in
    let l : w ≤ cap = omega arith in
    let p : span (is_other point) xs ≡ length xs = integer_all (is_other point) no_point w in
    by_eq f 0
    (λ e.
    let g : w + 0 ≡ 0 → ⊥ = λ (q : w + 0 ≡ 0). z (omega arith) in
    ap number_of (number_text_none w f e) ∙ number_whole xs p ∙ number_good (integer_read w l) refl a g
    ∙ ap (λ (k : ℕ). Ok (number w k)) (sym e))
    (λ e.
    let t : length (digits_text 10 fraction_digits f) ≡ fraction_digits = text_length 10 fraction_digits f in
    let g : length (digits_text 10 fraction_digits f) ≤ fraction_digits = omega arith in
    let m : f ≤ cap = omega arith in
    let n : f < 10 ^ fraction_digits = (let k : f < 10 = omega arith in k) in
    ap number_of (number_text_some w f e) ∙ number_parts xs (digits_text 10 fraction_digits f) p g
    ∙ number_good (integer_read w l) (fixed_read fraction_digits f (omega arith) n m) a z)

-- ---- levels
pub level_read : (l : ℕ) → l < 256 → level_of (level_text l) ≡ Ok l
unfolding level_text
level_read l h =
    let t : length (digits_text 16 2 l) ≡ 2 = text_length 16 2 l in
    let a : length (digits_text 16 2 l) ≤ hex_digits = omega arith in
    let b : length (digits_text 16 2 l) ≤ 2 = omega arith in
    let c : l ≤ cap = omega arith in
    level_hex (72 ∷ digits_text 16 2 l) refl
    ∙ hex_read (digits_text 16 2 l) a
    ∙ hex_byte (length (digits_text 16 2 l)) (run_read 16 (omega arith) (omega arith) 2 l (omega arith) h c) b

-- ---- times
first_read : (n : ℕ) → n ≤ part_max → part_of (integer_text n) ≡ Some n
first_read n h =
    let l : n ≤ cap = omega arith in
    sym (part_is (integer_text n) refl) ∙ part_good part_max (integer_read n l) h

-- the digits of a part after its colon
abbrev later_text : ℕ → List ℕ
later_text v = digits_text 10 (max 2 (digit_count v)) v

later_read : (v : ℕ) → v ≤ part_max → part_of (later_text v) ≡ Some v
later_read v h =
    let l : v ≤ cap = omega arith in
    let e : v < 10 ^ digit_count v = integer_enough v (let m : v < 10000000000 = omega arith in m) in
    let g : v < 10 ^ max 2 (digit_count v) = le_trans e (pow-le-pow_right (omega arith) (omega arith)) in
    sym (part_is (later_text v) refl) ∙ part_good part_max (fixed_read (max 2 (digit_count v)) v (omega arith) g l) h

later_plain : (v : ℕ) → span (is_other colon) (later_text v) ≡ length (later_text v)
later_plain v = decimals_all (is_other colon) no_colon (max 2 (digit_count v)) v

pub clock_read : (s : ℕ) → s ≤ clock_max → clock_of (clock_text s) ≡ Some s
unfolding part_text
clock_read s h =
    by_lt s 60
    (λ l.
    let g : s ≤ part_max = omega arith in
    ap clock_of (clock_seconds s l) ∙ clock_whole (integer_text s) (integer_all (is_other colon) no_colon s) ∙ first_read s g)
    (λ l.
    by_lt s 3600
    (λ m.
    let a : ℕ = s / 60 in
    let b : ℕ = s % 60 in
    let j : s / 60 ≤ part_max = omega arith in
    let k : s % 60 ≤ part_max = omega arith in
    let e : s / 60 * 60 + s % 60 ≡ s = omega arith in
    ap clock_of (clock_minutes s l m)
    ∙ clock_parts (integer_text a) (later_text b) (integer_all (is_other colon) no_colon a)
    ∙ later_whole (part_of (integer_text a)) (later_text b) (later_plain b)
    ∙ join_good 60 (first_read a j) (later_read b k) ∙ ap Some e)
    (λ m.
    let r : ℕ = left_by 3600 s in
    let a : ℕ = whole_in 3600 s in
    let b : ℕ = whole_in 60 r in
    let c : ℕ = left_by 60 r in
    ap clock_of (clock_hours s m)
    ∙ clock_parts (integer_text a) (later_text b ++ (colon ∷ later_text c)) (integer_all (is_other colon) no_colon a)
    ∙ later_parts (part_of (integer_text a)) (later_text b) (later_text c) (later_plain b)
    ∙ join_good 60 (join_good 60 (first_read a (whole_max_lem 3600 s)) (later_read b (whole_max_lem 60 r))) (later_read c (clock_left s h))
    ∙ ap Some (hours_whole s)))

time_text_none : (t : ℕ) → t % 10 ≡ 0 → time_text t ≡ clock_text (t / 10)
unfolding time_text
time_text_none t e =
    ap (λ (z : List ℕ). clock_text (t / 10) ++ z) (fraction_none tenths_digits (t % 10) e) ∙ append-nil (clock_text (t / 10))

time_text_some : (t : ℕ) → (t % 10 ≡ 0 → ⊥) → time_text t ≡ clock_text (t / 10) ++ (point ∷ digits_text 10 tenths_digits (t % 10))
unfolding time_text
time_text_some t e = ap (λ (z : List ℕ). clock_text (t / 10) ++ z) (fraction_some tenths_digits (t % 10) e)

pub time_read : (t : ℕ) → t ≤ time_max → time_of (time_text t) ≡ Some t
time_read t h =
    let u : ℕ = t / 10 in
    let v : ℕ = t % 10 in
    let xs : List ℕ = clock_text u in
    let l : t / 10 ≤ clock_max = omega arith in
    let p : span (is_other point) xs ≡ length xs = clock_all (is_other point) no_point refl u in
    by_eq (t % 10) 0
    (λ e.
    let q : t / 10 * 10 + 0 ≡ t = omega arith in
    ap time_of (time_text_none t e) ∙ time_whole xs p ∙ (join_good 10 (clock_read u l) refl ∙ ap Some q))
    (λ e.
    let q : t / 10 * 10 + t % 10 ≡ t = omega arith in
    let n : length (digits_text 10 tenths_digits v) ≡ tenths_digits = text_length 10 tenths_digits v in
    let g : length (digits_text 10 tenths_digits v) ≤ tenths_digits = omega arith in
    let m : t % 10 ≤ cap = omega arith in
    let k : t % 10 < 10 ^ tenths_digits = (let j : t % 10 < 10 = omega arith in j) in
    ap time_of (time_text_some t e) ∙ time_parts xs (digits_text 10 tenths_digits v) p g
    ∙ (join_good 10 (clock_read u l) (fixed_read tenths_digits v (omega arith) k m) ∙ ap Some q))
