-- Written texts: their lengths, how they go over a rest, which characters they have. By induction on the count of digits, and by cases.
-- Assumes nothing.
use mathlib.Core.Path.{◌≡◌, refl, sym, ap, ◌∙◌, subst}
use mathlib.Core.Bool.{Bool, true, ◌&&◌, ◌||◌}
use mathlib.Core.List.{List, [], ◌∷◌, ◌++◌}
use Prim.Native.Nat.{ℕ, zero, suc, ◌+◌, ◌-◌, ◌*◌, ◌/◌, ◌%◌, ◌^◌, ◌<◌, ◌≤◌, max}
use native.Mathlib.Nat.{mod-lt, pow-suc, pow-le-pow_right, div-lt_iff_lt-mul, div-mul-le_self, mul-le-mul_right, le_trans}
use native.Mathlib.Omega.{arith}
use Rattle.std.specs.Prelude.{Option, None, Some, IfNone, IfSome}
use Rattle.std.specs.Option.{unwrap_or}
use lib.Dec.{eqb, ltb, leb}
use lib.ListN.{length, get_or, set, length-append}
use borrow.Author.Tests.{lt-ltb, le-ltb, le-leb, eq-eqb, ne_eqb, eqb-true, leb-true}
use Rattle.cells.specs.Scan.{span}
use Rattle.cells.specs.Put.{put}
use Rattle.cells.proofs.Split.{by_lt, by_eq, by_or, cond-true, cond-false, and_true, and_left, and_right, or_true_left, or_true_right}
use Rattle.cells.proofs.Scan.{span_nil, span_all, all_below, all_append, all_cons}
use Rattle.cells.proofs.Put.{put_nil, put_comm, put_next, set_is_put}
use Rattle.value.specs.Parts.{point, colon}
use Rattle.value.specs.Number.{whole_max, fraction_digits}
use Rattle.value.specs.Time.{part_max, tenths_digits, clock_max, time_max}
use Rattle.value_written.specs.Text.{digit_char, digits_on, digits_text, digit_count_from, digit_count, integer_text, fraction_text, number_text, level_text, part_text, whole_in, left_by, clock_text, time_text, marked_text, is_plain}

-- ---- a digit's character
pub char_decimal : (d : ℕ) → d < 10 → digit_char d ≡ 48 + d
unfolding digit_char
char_decimal d h = cond-true (ltb d 10) (48 + d) (55 + d) (lt-ltb d 10 h)

pub char_capital : (d : ℕ) → 10 ≤ d → digit_char d ≡ 55 + d
unfolding digit_char
char_capital d h = cond-false (ltb d 10) (48 + d) (55 + d) (le-ltb d 10 h)

-- ---- digits
digits_none : (r n : ℕ) → digits_text r 0 n ≡ []
unfolding digits_on
digits_none r n = refl

pub digits_append : (r k n : ℕ) (xs ys : List ℕ) → digits_on r k n (xs ++ ys) ≡ digits_on r k n xs ++ ys
unfolding digits_on
digits_append r zero n xs ys = refl
digits_append r (suc k) n xs ys = digits_append r k (n / r) (digit_char (n % r) ∷ xs) ys

pub digits-length : (r k n : ℕ) (xs : List ℕ) → length (digits_on r k n xs) ≡ k + length xs
unfolding digits_on
digits-length r zero n xs = omega arith
digits-length r (suc k) n xs = let h : length (digits_on r k (n / r) (digit_char (n % r) ∷ xs)) ≡ k + suc (length xs) = digits-length r k (n / r) (digit_char (n % r) ∷ xs) in omega arith

pub text_length : (r k n : ℕ) → length (digits_text r k n) ≡ k
text_length r k n = let h : length (digits_on r k n []) ≡ k + 0 = digits-length r k n [] in omega arith

-- the last digit stands apart
pub digits_last : (r k n : ℕ) → digits_text r (suc k) n ≡ digits_text r k (n / r) ++ (digit_char (n % r) ∷ [])
unfolding digits_on
digits_last r k n = digits_append r k (n / r) [] (digit_char (n % r) ∷ [])

-- ---- a loop that writes digits from the last to the first: what is left to write
put_last : (t : List ℕ) (a : ℕ) (xs : List ℕ) (v : ℕ) → a + length xs < length t → put t a (xs ++ (v ∷ [])) ≡ put (set t (a + length xs) v) a xs
put_last t a xs v h =
    let k : ℕ = a + length xs in
    let l : a + length xs ≤ k = omega arith in
    let g : k ≤ length t = omega arith in
    let m : a ≤ length t = omega arith in
    sym (put_next t a xs k (v ∷ []) refl m) ∙ put_comm t a xs k (v ∷ []) l g ∙ ap (λ (z : List ℕ). put z a xs) (sym (set_is_put t k v h))

-- those up to place i
pub digits_turn : (t : List ℕ) (a r i n d : ℕ) → a < i → i ≤ length t → d ≡ digit_char (n % r)
    → put t a (digits_text r (i - a) n) ≡ put (set t (i - 1) d) a (digits_text r (i - 1 - a) (n / r))
digits_turn t a r i n d h e q =
    let xs : List ℕ = digits_text r (i - 1 - a) (n / r) in
    let l : length xs ≡ i - 1 - a = text_length r (i - 1 - a) (n / r) in
    ap (λ (k : ℕ). put t a (digits_text r k n)) (let f : i - a ≡ suc (i - 1 - a) = omega arith in f)
    ∙ ap (λ (z : List ℕ). put t a z) (digits_last r (i - 1 - a) n)
    ∙ ap (λ (c : ℕ). put t a (xs ++ (c ∷ []))) (sym q)
    ∙ put_last t a xs d (let w : a + length xs < length t = omega arith in w)
    ∙ ap (λ (k : ℕ). put (set t k d) a xs) (let w : a + length xs ≡ i - 1 = omega arith in w)

pub digits_done : (t : List ℕ) (a r i n : ℕ) → i ≤ a → put t a (digits_text r (i - a) n) ≡ t
digits_done t a r i n h =
    ap (λ (k : ℕ). put t a (digits_text r k n)) (let e : i - a ≡ 0 = omega arith in e)
    ∙ ap (λ (z : List ℕ). put t a z) (digits_none r n) ∙ put_nil t a

-- ---- how many digits
pub count_one : (f n : ℕ) → n < 10 → digit_count_from f n ≡ 1
unfolding digit_count_from
count_one zero n h = refl
count_one (suc f) n h = cond-true (ltb n 10) 1 (suc (digit_count_from f (n / 10))) (lt-ltb n 10 h)

count_more : (f n : ℕ) → 10 ≤ n → digit_count_from (suc f) n ≡ suc (digit_count_from f (n / 10))
unfolding digit_count_from
count_more f n h = cond-false (ltb n 10) 1 (suc (digit_count_from f (n / 10))) (le-ltb n 10 h)

tenth_below : (n k : ℕ) → n < 10 ^ suc k → n / 10 < 10 ^ k
tenth_below n k h = (div-lt_iff_lt-mul {k = 10} (omega arith)).1 (subst (λ (x : ℕ). n < x) (pow-suc 10 k) h)

below_tenth : (n k : ℕ) → n / 10 < 10 ^ k → n < 10 ^ suc k
below_tenth n k h = subst (λ (x : ℕ). n < x) (sym (pow-suc 10 k)) ((div-lt_iff_lt-mul {k = 10} (omega arith)).0 h)

-- as many digits as it takes
count_enough : (f n : ℕ) → n < 10 ^ suc f → n < 10 ^ digit_count_from f n
count_enough zero n h = subst (λ (k : ℕ). n < 10 ^ k) (sym (count_one zero n h)) h
count_enough (suc f) n h =
    by_lt n 10
    (λ l. subst (λ (k : ℕ). n < 10 ^ k) (sym (count_one (suc f) n l)) l)
    (λ l.
    subst (λ (k : ℕ). n < 10 ^ k) (sym (count_more f n l))
    (below_tenth n (digit_count_from f (n / 10)) (count_enough f (n / 10) (tenth_below n (suc f) h))))

count_last : (n : ℕ) → digit_count_from zero n ≡ 1
unfolding digit_count_from
count_last n = refl

-- and no more
count_short_more : (f n k : ℕ) → 10 ≤ n → n < 10 ^ suc k → ((j : ℕ) → n / 10 < 10 ^ suc j → digit_count_from f (n / 10) ≤ suc j) → digit_count_from (suc f) n ≤ suc k
count_short_more f n zero l h g = absurd (let m : n < 10 = h in omega arith)
count_short_more f n (suc k) l h g =
    let e : digit_count_from (suc f) n ≡ suc (digit_count_from f (n / 10)) = count_more f n l in
    let m : digit_count_from f (n / 10) ≤ suc k = g k (tenth_below n (suc k) h) in
    omega arith

count_short : (f n k : ℕ) → n < 10 ^ suc k → digit_count_from f n ≤ suc k
count_short zero n k h = let e : digit_count_from zero n ≡ 1 = count_last n in omega arith
count_short (suc f) n k h =
    by_lt n 10
    (λ l. let e : digit_count_from (suc f) n ≡ 1 = count_one (suc f) n l in omega arith)
    (λ l. count_short_more f n k l h (λ j g. count_short f (n / 10) j g))

pub count_some : (f n : ℕ) → 1 ≤ digit_count_from f n
count_some zero n = let e : digit_count_from zero n ≡ 1 = count_last n in omega arith
count_some (suc f) n =
    by_lt n 10
    (λ l. let e : digit_count_from (suc f) n ≡ 1 = count_one (suc f) n l in omega arith)
    (λ l. let e : digit_count_from (suc f) n ≡ suc (digit_count_from f (n / 10)) = count_more f n l in omega arith)

-- ---- lengths
pub integer_length : (n : ℕ) → length (integer_text n) ≡ digit_count n
unfolding integer_text
integer_length n = text_length 10 (digit_count n) n

pub integer_enough : (n : ℕ) → n < 10 ^ 10 → n < 10 ^ digit_count n
unfolding digit_count
integer_enough n h = count_enough 9 n h

pub integer_count : (n : ℕ) → 1 ≤ digit_count n
unfolding digit_count
integer_count n = count_some 9 n

-- one more than the largest power of ten that is no larger; zero has a digit too
power_count : (n k : ℕ) → n < 10 ^ 10 → 10 ^ k ≤ n → n < 10 * 10 ^ k → digit_count n ≡ k + 1
unfolding digit_count
power_count n k h g l =
    let m : digit_count n ≤ suc k = count_short 9 n k (let p = pow-suc 10 k in omega arith) in
    let e : n < 10 ^ digit_count n = integer_enough n h in
    by_lt k (digit_count n) (λ i. omega arith) (λ i. absurd (let p : 10 ^ digit_count n ≤ 10 ^ k = pow-le-pow_right (omega arith) i in omega arith))

pub length_power : (n : ℕ) (o : Option ℕ) → n < 4294967296
    → IfNone o (n ≡ 0) → IfSome o (λ k. 10 ^ k ≤ n) → IfSome o (λ k. n < 10 * 10 ^ k) → unwrap_or o 0 + 1 ≡ length (integer_text n)
unfolding digit_count
length_power n None h z p q = sym (integer_length n ∙ count_one 9 n (let e : n ≡ 0 = z in omega arith))
length_power n (Some k) h z p q = sym (integer_length n ∙ power_count n k (omega arith) p q)

-- a number below 10 ^ (k + 1) has at most k + 1 digits
pub integer_short : (n k : ℕ) → n < 10 ^ suc k → length (integer_text n) ≤ suc k
unfolding digit_count
integer_short n k h = subst (λ (x : ℕ). x ≤ suc k) (sym (integer_length n)) (count_short 9 n k h)

pub integer_some : (n : ℕ) → 1 ≤ length (integer_text n)
integer_some n = subst (λ (x : ℕ). 1 ≤ x) (sym (integer_length n)) (integer_count n)

-- any number of 32 bits
pub integer_ten : (n : ℕ) → n < 4294967296 → length (integer_text n) ≤ 10
integer_ten n h = integer_short n 9 (let g : n < 10000000000 = omega arith in g)

-- as many digits as the length says
pub integer_is : (n : ℕ) {k : ℕ} → k ≡ length (integer_text n) → digits_text 10 k n ≡ integer_text n
unfolding integer_text
integer_is n {k} e = ap (λ (j : ℕ). digits_text 10 j n) (e ∙ integer_length n)

pub fraction_none : (k f : ℕ) → f ≡ 0 → fraction_text k f ≡ []
unfolding fraction_text
fraction_none k f e = cond-true (eqb f 0) [] (point ∷ digits_text 10 k f) (eq-eqb f 0 e)

pub fraction_some : (k f : ℕ) → (f ≡ 0 → ⊥) → fraction_text k f ≡ point ∷ digits_text 10 k f
unfolding fraction_text
fraction_some k f e = cond-false (eqb f 0) [] (point ∷ digits_text 10 k f) (ne_eqb f 0 e)

pub fraction_length_none : (k f : ℕ) → f ≡ 0 → length (fraction_text k f) ≡ 0
fraction_length_none k f e = ap length (fraction_none k f e)

pub fraction_length_some : (k f : ℕ) → (f ≡ 0 → ⊥) → length (fraction_text k f) ≡ k + 1
fraction_length_some k f e =
    ap length (fraction_some k f e) ∙ ap suc (text_length 10 k f) ∙ (let w : suc k ≡ k + 1 = omega arith in w)

pub fraction_short : (k f : ℕ) → length (fraction_text k f) ≤ k + 1
fraction_short k f =
    by_eq f 0
    (λ e. let w : length (fraction_text k f) ≡ 0 = fraction_length_none k f e in omega arith)
    (λ e. let w : length (fraction_text k f) ≡ k + 1 = fraction_length_some k f e in omega arith)

pub number_length : (w f : ℕ) → length (number_text w f) ≡ length (integer_text w) + length (fraction_text fraction_digits f)
unfolding number_text
number_length w f = length-append (integer_text w) (fraction_text fraction_digits f)

pub number_short : (w f : ℕ) → w ≤ whole_max → length (number_text w f) ≤ 5
number_short w f h =
    let a : length (integer_text w) ≤ 3 = integer_short w 2 (let g : w < 1000 = omega arith in g) in
    let b : length (fraction_text fraction_digits f) ≤ fraction_digits + 1 = fraction_short fraction_digits f in
    let c : length (number_text w f) ≡ length (integer_text w) + length (fraction_text fraction_digits f) = number_length w f in
    omega arith

pub level_length : (l : ℕ) → length (level_text l) ≡ 3
unfolding level_text
level_length l = ap suc (text_length 16 2 l)

-- ---- a part after a colon
pub part_length : (v : ℕ) → length (part_text v) ≡ 1 + max 2 (digit_count v)
unfolding part_text
part_length v = ap suc (text_length 10 (max 2 (digit_count v)) v) ∙ (let e : suc (max 2 (digit_count v)) ≡ 1 + max 2 (digit_count v) = omega arith in e)

pub part_short : (v k : ℕ) → v < 10 ^ suc (suc k) → length (part_text v) ≤ 3 + k
part_short v k h =
    let a : length (integer_text v) ≤ suc (suc k) = integer_short v (suc k) h in
    let b : length (integer_text v) ≡ digit_count v = integer_length v in
    let c : length (part_text v) ≡ 1 + max 2 (digit_count v) = part_length v in
    omega arith

-- its digits, of which there are two at least
pub part_is : (v : ℕ) {k : ℕ} → k ≡ max (length (integer_text v)) 2 → colon ∷ digits_text 10 k v ≡ part_text v
unfolding part_text
part_is v {k} e = ap (λ (j : ℕ). colon ∷ digits_text 10 j v) (omega (arith, integer_length v))

-- two below a hundred
part_length_two : (v : ℕ) → v < 100 → length (part_text v) ≡ 3
part_length_two v h =
    let a : length (integer_text v) ≤ 2 = integer_short v 1 h in
    omega (arith, integer_length v, part_length v)

-- any part of 32 bits
part_long : (v : ℕ) → v < 4294967296 → length (part_text v) ≤ 11
part_long v h = part_short v 8 (let g : v < 10000000000 = omega arith in g)

-- ---- whole hours, or minutes, and what they leave
module _ (unit s : ℕ) where
  pub whole_max_lem : whole_in unit s ≤ part_max
  unfolding whole_in
  whole_max_lem = omega arith

  pub whole_le : whole_in unit s * unit ≤ s
  unfolding whole_in
  whole_le = le_trans (mul-le-mul_right unit (let h : whole_in unit s ≤ s / unit = omega arith in h)) (div-mul-le_self s unit)

  pub left_is : s - whole_in unit s * unit ≡ left_by unit s
  unfolding left_by
  left_is = refl

pub counted_le : (unit s : ℕ) {n : ℕ} → n ≡ whole_in unit s → n * unit ≤ s
counted_le unit s e = subst (λ (k : ℕ). k * unit ≤ s) (sym e) (whole_le unit s)

pub left_le : (unit s : ℕ) → left_by unit s ≤ s
left_le unit s = let e : s - whole_in unit s * unit ≡ left_by unit s = left_is unit s in omega arith

-- of the largest clock there are 999 seconds left
pub clock_left : (s : ℕ) → s ≤ clock_max → left_by 60 (left_by 3600 s) ≤ part_max
unfolding whole_in left_by
clock_left s h = omega arith

-- the parts count the whole
minutes_whole : (s : ℕ) → whole_in 60 s * 60 + left_by 60 s ≡ s
minutes_whole s =
    let e : s - whole_in 60 s * 60 ≡ left_by 60 s = left_is 60 s in
    let h : whole_in 60 s * 60 ≤ s = whole_le 60 s in
    omega arith

pub hours_whole : (s : ℕ) → (whole_in 3600 s * 60 + whole_in 60 (left_by 3600 s)) * 60 + left_by 60 (left_by 3600 s) ≡ s
hours_whole s =
    let e : s - whole_in 3600 s * 3600 ≡ left_by 3600 s = left_is 3600 s in
    let h : whole_in 3600 s * 3600 ≤ s = whole_le 3600 s in
    let m : whole_in 60 (left_by 3600 s) * 60 + left_by 60 (left_by 3600 s) ≡ left_by 3600 s = minutes_whole (left_by 3600 s) in
    omega arith

-- up to 999:59:59 the parts are what the clock shows, minutes and seconds below 60; past it there are 999 hours
pub parts_below : (s : ℕ) → s < 3600000
    → (whole_in 3600 s ≡ s / 3600) × (whole_in 60 (left_by 3600 s) ≡ s / 60 % 60) × (left_by 60 (left_by 3600 s) ≡ s % 60)
unfolding whole_in left_by
parts_below s h = (omega arith, omega arith, omega arith)

pub parts_past : (s : ℕ) → 3600000 ≤ s → whole_in 3600 s ≡ part_max
unfolding whole_in
parts_past s h = omega arith

-- ---- the three shapes of a time
pub clock_seconds : (s : ℕ) → s < 60 → clock_text s ≡ integer_text s
unfolding clock_text
clock_seconds s h = rw (lt-ltb s 60 h)

pub clock_minutes : (s : ℕ) → 60 ≤ s → s < 3600 → clock_text s ≡ integer_text (s / 60) ++ part_text (s % 60)
unfolding clock_text
clock_minutes s g h = rw (le-ltb s 60 g, lt-ltb s 3600 h)

pub clock_hours : (s : ℕ) → 3600 ≤ s
    → clock_text s ≡ integer_text (whole_in 3600 s) ++ (part_text (whole_in 60 (left_by 3600 s)) ++ part_text (left_by 60 (left_by 3600 s)))
unfolding clock_text
clock_hours s h = let g : 60 ≤ s = omega arith in rw (le-ltb s 60 g, le-ltb s 3600 h)

-- of the parts as the code has them
pub clock_hours_is : (s : ℕ) {r a b c : ℕ} → r ≡ left_by 3600 s → a ≡ whole_in 3600 s → b ≡ whole_in 60 r → c ≡ left_by 60 r → 3600 ≤ s
    → clock_text s ≡ integer_text a ++ (part_text b ++ part_text c)
clock_hours_is s er ea eb ec h = let e = clock_hours s h in cc

pub clock_length_minutes : (s : ℕ) → 60 ≤ s → s < 3600 → length (clock_text s) ≡ length (integer_text (s / 60)) + length (part_text (s % 60))
clock_length_minutes s g h = ap length (clock_minutes s g h) ∙ length-append (integer_text (s / 60)) (part_text (s % 60))

pub clock_length_hours : (s : ℕ) → 3600 ≤ s
    → length (clock_text s)
    ≡ length (integer_text (whole_in 3600 s)) + length (part_text (whole_in 60 (left_by 3600 s))) + length (part_text (left_by 60 (left_by 3600 s)))
clock_length_hours s h =
    let m : List ℕ = part_text (whole_in 60 (left_by 3600 s)) in
    let r : List ℕ = part_text (left_by 60 (left_by 3600 s)) in
    let a : length (clock_text s) ≡ length (integer_text (whole_in 3600 s) ++ (m ++ r)) = ap length (clock_hours s h) in
    let b : length (integer_text (whole_in 3600 s) ++ (m ++ r)) ≡ length (integer_text (whole_in 3600 s)) + length (m ++ r) =
    length-append (integer_text (whole_in 3600 s)) (m ++ r)
    in
    let c : length (m ++ r) ≡ length m + length r = length-append m r in
    omega arith

-- the lengths as the code adds them, and that they are small
pub minutes_length : (s : ℕ) {x y : ℕ} → x ≡ length (integer_text (s / 60)) → y ≡ length (part_text (s % 60)) → 60 ≤ s → s < 3600
    → x + y ≡ length (clock_text s)
minutes_length s ex ey g h = let e = clock_length_minutes s g h in cc

pub hours_length : (s : ℕ) {r a b c x y z : ℕ} → r ≡ left_by 3600 s → a ≡ whole_in 3600 s → b ≡ whole_in 60 r → c ≡ left_by 60 r
    → x ≡ length (integer_text a) → y ≡ length (part_text b) → z ≡ length (part_text c) → 3600 ≤ s → x + y + z ≡ length (clock_text s)
hours_length s er ea eb ec ex ey ez h = let e = clock_length_hours s h in cc

pub integer_few : {n x : ℕ} → x ≡ length (integer_text n) → n < 4294967296 → x ≤ 10
integer_few {n} e h = omega (arith, integer_ten n h)

pub part_few : {v y : ℕ} → y ≡ length (part_text v) → v < 4294967296 → y ≤ 11
part_few {v} e h = omega (arith, part_long v h)

-- hours and minutes have three digits at most, so that only the seconds are to be bounded
pub clock_by : (s k : ℕ) → left_by 60 (left_by 3600 s) < 10 ^ suc (suc k) → length (clock_text s) ≤ 10 + k
clock_by s k h =
    by_lt s 60
    (λ l.
    let a : length (integer_text s) ≤ 2 = integer_short s 1 (let g : s < 100 = omega arith in g) in
    let e : length (clock_text s) ≡ length (integer_text s) = ap length (clock_seconds s l) in
    omega arith)
    (λ l.
    let n : (unit r : ℕ) → whole_in unit r < 1000 = λ unit r. omega (arith, whole_max_lem unit r) in
    by_lt s 3600
    (λ m.
    let a : length (integer_text (s / 60)) ≤ 2 = integer_short (s / 60) 1 (let g : s / 60 < 100 = omega arith in g) in
    let b : length (part_text (s % 60)) ≡ 3 = part_length_two (s % 60) (omega arith) in
    let e : length (clock_text s) ≡ length (integer_text (s / 60)) + length (part_text (s % 60)) = clock_length_minutes s l m in
    omega arith)
    (λ m.
    let a : length (integer_text (whole_in 3600 s)) ≤ 3 = integer_short (whole_in 3600 s) 2 (n 3600 s) in
    let b : length (part_text (whole_in 60 (left_by 3600 s))) ≤ 3 + 1 = part_short (whole_in 60 (left_by 3600 s)) 1 (n 60 (left_by 3600 s)) in
    let c : length (part_text (left_by 60 (left_by 3600 s))) ≤ 3 + k = part_short (left_by 60 (left_by 3600 s)) k h in
    let e = clock_length_hours s m in
    omega arith))

pub time_length : (t : ℕ) → length (time_text t) ≡ length (clock_text (t / 10)) + length (fraction_text tenths_digits (t % 10))
unfolding time_text
time_length t = length-append (clock_text (t / 10)) (fraction_text tenths_digits (t % 10))

pub time_by : (t k : ℕ) → left_by 60 (left_by 3600 (t / 10)) < 10 ^ suc (suc k) → length (time_text t) ≤ 12 + k
time_by t k h =
    let a : length (clock_text (t / 10)) ≤ 10 + k = clock_by (t / 10) k h in
    let b : length (fraction_text tenths_digits (t % 10)) ≤ tenths_digits + 1 = fraction_short tenths_digits (t % 10) in
    let c : length (time_text t) ≡ length (clock_text (t / 10)) + length (fraction_text tenths_digits (t % 10)) = time_length t in
    omega arith

-- a time as it is read, and any of 32 bits
pub time_short : (t : ℕ) → t ≤ time_max → length (time_text t) ≤ 13
time_short t h =
    let l : t / 10 ≤ clock_max = omega arith in
    time_by t 1 (let g : left_by 60 (left_by 3600 (t / 10)) < 1000 = omega (arith, clock_left (t / 10) l) in g)

pub left_few : (t : ℕ) → left_by 60 (left_by 3600 (t / 10)) ≤ t / 10
left_few t = let a = left_le 60 (left_by 3600 (t / 10)) in let b = left_le 3600 (t / 10) in omega arith

pub time_long : (t : ℕ) → t < 4294967296 → length (time_text t) ≤ 19
time_long t h = time_by t 7 (let g : left_by 60 (left_by 3600 (t / 10)) < 1000000000 = omega (arith, left_few t) in g)

pub time_some : (t : ℕ) → 1 ≤ length (time_text t)
time_some t =
    let s : ℕ = t / 10 in
    let e = time_length t in
    by_lt s 60
    (λ l.
    let a : length (clock_text s) ≡ length (integer_text s) = ap length (clock_seconds s l) in
    let b : 1 ≤ length (integer_text s) = integer_some s in
    omega arith)
    (λ l.
    by_lt s 3600
    (λ m. let a = clock_length_minutes s l m in let b = integer_some (s / 60) in omega arith)
    (λ m. let a = clock_length_hours s m in let b = integer_some (whole_in 3600 s) in omega arith))

-- ---- characters: of digits, for any class that holds the digits
pub digits_all : (p : ℕ → Bool) (r : ℕ) → 0 < r → ((d : ℕ) → d < r → p (digit_char d) ≡ true)
    → (k n : ℕ) (xs : List ℕ) → span p xs ≡ length xs → span p (digits_on r k n xs) ≡ length (digits_on r k n xs)
unfolding digits_on
digits_all p r z f zero n xs e = e
digits_all p r z f (suc k) n xs e =
    digits_all p r z f k (n / r) (digit_char (n % r) ∷ xs) (all_cons p (digit_char (n % r)) xs (f (n % r) (mod-lt n z)) e)

-- a class with the ten digits
module _ (p : ℕ → Bool) (f : (c : ℕ) → 48 ≤ c → c ≤ 57 → p c ≡ true) where
  decimal_in : (d : ℕ) → d < 10 → p (digit_char d) ≡ true
  decimal_in d h =
      let a : 48 ≤ 48 + d = omega arith in
      let b : 48 + d ≤ 57 = omega arith in
      ap p (char_decimal d h) ∙ f (48 + d) a b

  pub decimals_all : (k n : ℕ) → span p (digits_text 10 k n) ≡ length (digits_text 10 k n)
  decimals_all k n = digits_all p 10 (omega arith) decimal_in k n [] (span_nil p)

  pub integer_all : (n : ℕ) → span p (integer_text n) ≡ length (integer_text n)
  unfolding integer_text
  integer_all n = decimals_all (digit_count n) n

  -- and the colon
  module _ (g : p colon ≡ true) where
    part_all : (v : ℕ) → span p (part_text v) ≡ length (part_text v)
    unfolding part_text
    part_all v = all_cons p colon (digits_text 10 (max 2 (digit_count v)) v) g (decimals_all (max 2 (digit_count v)) v)

    pub clock_all : (s : ℕ) → span p (clock_text s) ≡ length (clock_text s)
    clock_all s =
        by_lt s 60
        (λ l. subst (λ (z : List ℕ). span p z ≡ length z) (sym (clock_seconds s l)) (integer_all s))
        (λ l.
        by_lt s 3600
        (λ m.
        subst (λ (z : List ℕ). span p z ≡ length z) (sym (clock_minutes s l m))
        (all_append p (integer_text (s / 60)) (part_text (s % 60)) (integer_all (s / 60)) (part_all (s % 60))))
        (λ m.
        let r : ℕ = left_by 3600 s in
        subst (λ (z : List ℕ). span p z ≡ length z) (sym (clock_hours s m))
        (all_append p (integer_text (whole_in 3600 s)) (part_text (whole_in 60 r) ++ part_text (left_by 60 r)) (integer_all (whole_in 3600 s))
        (all_append p (part_text (whole_in 60 r)) (part_text (left_by 60 r)) (part_all (whole_in 60 r)) (part_all (left_by 60 r))))))

  -- and the point
  pub fraction_all : p point ≡ true → (k v : ℕ) → span p (fraction_text k v) ≡ length (fraction_text k v)
  fraction_all g k v =
      by_eq v 0
      (λ e. subst (λ (z : List ℕ). span p z ≡ length z) (sym (fraction_none k v e)) (span_nil p))
      (λ e. subst (λ (z : List ℕ). span p z ≡ length z) (sym (fraction_some k v e)) (all_cons p point (digits_text 10 k v) g (decimals_all k v)))

-- ---- the characters of written values
pub by_plain {ℓ} : {X : Type ℓ} (c : ℕ) → is_plain c ≡ true → (c ≡ 46 → X) → (48 ≤ c → c ≤ 58 → X) → (65 ≤ c → c ≤ 72 → X) → X
unfolding is_plain
by_plain c e f g h =
    by_or (eqb c 46) ((leb 48 c && leb c 58) || (leb 65 c && leb c 72)) e
    (λ t. f (eqb-true c 46 t))
    (λ t.
    by_or (leb 48 c && leb c 58) (leb 65 c && leb c 72) t
    (λ u. g (leb-true 48 c (and_left (leb 48 c) (leb c 58) u)) (leb-true c 58 (and_right (leb 48 c) (leb c 58) u)))
    (λ u. h (leb-true 65 c (and_left (leb 65 c) (leb c 72) u)) (leb-true c 72 (and_right (leb 65 c) (leb c 72) u))))

-- so a class that holds them holds a written value
pub plain_in : (q : ℕ → Bool) → ((c : ℕ) → is_plain c ≡ true → q c ≡ true) → (s : List ℕ) → span is_plain s ≡ length s → span q s ≡ length s
plain_in q f s e = span_all q s (λ k h. f (get_or s k 0) (all_below is_plain s e k h))

plain_low : (c : ℕ) → 48 ≤ c → c ≤ 58 → is_plain c ≡ true
unfolding is_plain
plain_low c g h =
    or_true_right (eqb c 46) ((leb 48 c && leb c 58) || (leb 65 c && leb c 72))
    (or_true_left (leb 48 c && leb c 58) (leb 65 c && leb c 72) (and_true (leb 48 c) (leb c 58) (le-leb 48 c g) (le-leb c 58 h)))

plain_high : (c : ℕ) → 65 ≤ c → c ≤ 72 → is_plain c ≡ true
unfolding is_plain
plain_high c g h =
    or_true_right (eqb c 46) ((leb 48 c && leb c 58) || (leb 65 c && leb c 72))
    (or_true_right (leb 48 c && leb c 58) (leb 65 c && leb c 72) (and_true (leb 65 c) (leb c 72) (le-leb 65 c g) (le-leb c 72 h)))

plain_digit : (c : ℕ) → 48 ≤ c → c ≤ 57 → is_plain c ≡ true
plain_digit c g h = plain_low c g (omega arith)

plain_point : is_plain point ≡ true
unfolding is_plain
plain_point = refl

pub integer_plain : (n : ℕ) → span is_plain (integer_text n) ≡ length (integer_text n)
integer_plain n = integer_all is_plain plain_digit n

pub number_plain : (w f : ℕ) → span is_plain (number_text w f) ≡ length (number_text w f)
unfolding number_text
number_plain w f =
    all_append is_plain (integer_text w) (fraction_text fraction_digits f) (integer_plain w)
    (fraction_all is_plain plain_digit plain_point fraction_digits f)

hex_plain : (d : ℕ) → d < 16 → is_plain (digit_char d) ≡ true
hex_plain d h =
    by_lt d 10
    (λ l. decimal_in is_plain plain_digit d l)
    (λ l.
    let a : 65 ≤ 55 + d = omega arith in
    let b : 55 + d ≤ 72 = omega arith in
    ap is_plain (char_capital d l) ∙ plain_high (55 + d) a b)

pub level_plain : (l : ℕ) → span is_plain (level_text l) ≡ length (level_text l)
unfolding level_text
level_plain l =
    all_cons is_plain 72 (digits_text 16 2 l) (plain_high 72 (omega arith) (omega arith))
    (digits_all is_plain 16 (omega arith) hex_plain 2 l [] (span_nil is_plain))

pub time_plain : (t : ℕ) → span is_plain (time_text t) ≡ length (time_text t)
unfolding time_text
time_plain t =
    all_append is_plain (clock_text (t / 10)) (fraction_text tenths_digits (t % 10))
    (clock_all is_plain plain_digit (plain_low colon (omega arith) (omega arith)) (t / 10))
    (fraction_all is_plain plain_digit plain_point tenths_digits (t % 10))

-- ---- the pieces that the code writes one behind the other
pub marked_pieces : (mark : List ℕ) (n : ℕ) → mark ++ integer_text n ≡ marked_text mark n
unfolding marked_text
marked_pieces mark n = refl

pub number_pieces : (w f : ℕ) → integer_text w ++ fraction_text fraction_digits f ≡ number_text w f
unfolding number_text
number_pieces w f = refl

pub time_pieces : (t : ℕ) → clock_text (t / 10) ++ fraction_text tenths_digits (t % 10) ≡ time_text t
unfolding time_text
time_pieces t = refl
