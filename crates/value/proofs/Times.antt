-- Times: parts in their ranges, parts joined, one to three of them; how large each can be. By cases on the parts and the tests' facts.
-- Hypotheses have the form in which a match leaves them.
-- Assumes nothing.
use Rattle.std.specs.Prelude.{None, Option, Some}
use mathlib.Core.Path.{◌≡◌, refl, sym, ap, ◌∙◌, subst}
use mathlib.Core.List.{List}
use Prim.Native.Nat.{ℕ, ◌+◌, ◌-◌, ◌*◌, ◌<◌, ◌≤◌}
use native.Mathlib.Nat.{mul-le-mul, mul-le-mul_right, le_trans, add-le-add}
use native.Mathlib.Omega.{arith}
use lib.ListN.{length, take, drop}
use lib.Dec.{leb}
use borrow.Author.Tests.{lt-ltb, le-ltb, le-leb, lt-leb}
use Rattle.std.specs.Bool.{then_some}
use Rattle.cells.proofs.Split.{by_lt, by_le}
use Rattle.cells.proofs.Put.{tail_is}
use Rattle.value.specs.Integer.{cap, integer_of, AtMost}
use Rattle.value.specs.Parts.{point, colon, cut_at, before, after, decimals_of}
use Rattle.value.specs.Time.{part_max, clock_max, tenths_digits, bounded_of, part_of, join_of, later_of, clock_of, time_of}
use Rattle.value.proofs.Digits.{at_most_of}

pub at_most_up : {n m : ℕ} (i : Option ℕ) → AtMost n i → n ≤ m → AtMost m i
at_most_up None h g = tt
at_most_up (Some v) h g = le_trans h g

-- ---- a part
pub part_malformed : (most : ℕ) {i : Option ℕ} → i ≡ None → bounded_of most i ≡ None
unfolding bounded_of
part_malformed most e = ap (λ (x : Option ℕ). bounded_of most x) e

pub part_large : (most : ℕ) {i : Option ℕ} {v : ℕ} → i ≡ Some v → most < v → bounded_of most i ≡ None
unfolding bounded_of
part_large most {i} {v} e h = ap (λ (x : Option ℕ). bounded_of most x) e ∙ rw (lt-ltb most v h)

pub part_good : (most : ℕ) {i : Option ℕ} {v : ℕ} → i ≡ Some v → v ≤ most → bounded_of most i ≡ Some v
unfolding bounded_of
part_good most {i} {v} e h = ap (λ (x : Option ℕ). bounded_of most x) e ∙ rw (le-ltb most v h)

pub part_some : (s : List ℕ) {i : Option ℕ} {v : ℕ} → i ≡ integer_of s → i ≡ Some v → then_some (leb v part_max) v ≡ part_of s
unfolding part_of
part_some s {i} {v} p q =
    let e : integer_of s ≡ Some v = sym p ∙ q in
    by_le v part_max
    (λ h. rw (le-leb v part_max h) (sym (part_good part_max e h)))
    (λ h. rw (lt-leb v part_max h) (sym (part_large part_max e h)))

ranged_most : (most : ℕ) (i : Option ℕ) → AtMost most (bounded_of most i)
ranged_most most None = at_most_of most (part_malformed most refl) tt
ranged_most most (Some v) =
    by_le v most (λ h. at_most_of most (part_good most refl h) h) (λ h. at_most_of most (part_large most refl h) tt)

pub part_most : (s : List ℕ) → AtMost part_max (part_of s)
unfolding part_of
part_most s = ranged_most part_max (integer_of s)

-- ---- two parts
pub join_high : {i : Option ℕ} (base : ℕ) (j : Option ℕ) → i ≡ None → join_of i base j ≡ None
unfolding join_of
join_high base j e = ap (λ (x : Option ℕ). join_of x base j) e

pub join_low : {i j : Option ℕ} (base : ℕ) {h : ℕ} → i ≡ Some h → j ≡ None → join_of i base j ≡ None
unfolding join_of
join_low {i} {j} base {h} e f = ap (λ (x : Option ℕ). join_of x base j) e ∙ ap (λ (y : Option ℕ). join_of (Some h) base y) f

pub join_good : {i j : Option ℕ} (base : ℕ) {h l : ℕ} → i ≡ Some h → j ≡ Some l → join_of i base j ≡ Some (h * base + l)
unfolding join_of
join_good {i} {j} base {h} e f = ap (λ (x : Option ℕ). join_of x base j) e ∙ ap (λ (y : Option ℕ). join_of (Some h) base y) f

pub join_most : (a b base : ℕ) (i j : Option ℕ) → AtMost a i → AtMost b j → AtMost (a * base + b) (join_of i base j)
join_most a b base None j h g = at_most_of (a * base + b) (join_high base j refl) tt
join_most a b base (Some x) None h g = at_most_of (a * base + b) (join_low base refl refl) tt
join_most a b base (Some x) (Some y) h g =
    at_most_of (a * base + b) (join_good base refl refl) (add-le-add (mul-le-mul_right base h) g)

-- what `joined` may be given
pub joined_fits : {h k l : ℕ} → h ≤ 10000000 → k ≤ 100 → l ≤ cap → h * k + l ≤ 1000100000
joined_fits {h} {k} {l} a b c = let m : h * k ≤ 10000000 * 100 = mul-le-mul a b in omega arith

-- ---- the parts behind the first colon
pub later_one : (first : Option ℕ) (s : List ℕ) → length s ≤ cut_at colon s → later_of first s ≡ join_of first 60 (part_of s)
unfolding later_of
later_one first s h = rw (le-ltb (cut_at colon s) (length s) h)

pub later_two : (first : Option ℕ) (s : List ℕ) → cut_at colon s < length s
    → later_of first s
    ≡ join_of (join_of first 60 (part_of (before (cut_at colon s) s))) 60 (part_of (after (cut_at colon s) s))
unfolding later_of
later_two first s h = rw (lt-ltb (cut_at colon s) (length s) h)

-- ---- all parts
pub clock_one : (s : List ℕ) → length s ≤ cut_at colon s → clock_of s ≡ part_of (before (cut_at colon s) s)
unfolding clock_of
clock_one s h = rw (le-ltb (cut_at colon s) (length s) h)

pub clock_more : (s : List ℕ) → cut_at colon s < length s
    → clock_of s ≡ later_of (part_of (before (cut_at colon s) s)) (after (cut_at colon s) s)
unfolding clock_of
clock_more s h = rw (lt-ltb (cut_at colon s) (length s) h)

-- ---- how large
pub middle_most : (first : Option ℕ) (s : List ℕ) → AtMost part_max first → AtMost (part_max * 60 + part_max) (join_of first 60 (part_of s))
middle_most first s h = join_most part_max part_max 60 first (part_of s) h (part_most s)

later_most : (first : Option ℕ) (s : List ℕ) → AtMost part_max first → AtMost clock_max (later_of first s)
later_most first s h =
    by_lt (cut_at colon s) (length s)
    (λ l.
    let m : Option ℕ = join_of first 60 (part_of (before (cut_at colon s) s)) in
    let t : List ℕ = after (cut_at colon s) s in
    at_most_of clock_max (later_two first s l)
    (join_most (part_max * 60 + part_max) part_max 60 m (part_of t) (middle_most first (before (cut_at colon s) s) h)
    (part_most t)))
    (λ l.
    at_most_of clock_max (later_one first s l)
    (at_most_up (join_of first 60 (part_of s)) (middle_most first s h) (omega arith)))

pub clock_most : (s : List ℕ) → AtMost clock_max (clock_of s)
clock_most s =
    let f : List ℕ = before (cut_at colon s) s in
    by_lt (cut_at colon s) (length s)
    (λ l. at_most_of clock_max (clock_more s l) (later_most (part_of f) (after (cut_at colon s) s) (part_most f)))
    (λ l. at_most_of clock_max (clock_one s l) (at_most_up (part_of f) (part_most f) (omega arith)))

-- ---- from the parts as the code has them
pub part_is : (s : List ℕ) {i : Option ℕ} → i ≡ integer_of s → bounded_of part_max i ≡ part_of s
unfolding part_of
part_is s e = ap (bounded_of part_max) e

pub part_at_most : (n : ℕ) (s : List ℕ) {i : Option ℕ} → i ≡ part_of s → part_max ≤ n → AtMost n i
part_at_most n s e h = at_most_of n e (at_most_up (part_of s) (part_most s) h)

pub middle_at_most : (first : Option ℕ) (s : List ℕ) {i j : Option ℕ}
    → AtMost part_max first → j ≡ part_of s → i ≡ join_of first 60 j → AtMost 10000000 i
middle_at_most first s {i} {j} h e f =
    at_most_of 10000000 (f ∙ ap (λ (x : Option ℕ). join_of first 60 x) e)
    (at_most_up (join_of first 60 (part_of s)) (middle_most first s h) (omega arith))

pub clock_at_most : (s : List ℕ) {i : Option ℕ} → i ≡ clock_of s → AtMost 10000000 i
clock_at_most s e = at_most_of 10000000 e (at_most_up (clock_of s) (clock_most s) (omega arith))

pub later_one_is : (first : Option ℕ) (s : List ℕ) {n : ℕ} {i : Option ℕ}
    → n ≡ cut_at colon s → length s ≤ n → i ≡ part_of s → join_of first 60 i ≡ later_of first s
later_one_is first s e h f =
    ap (λ (x : Option ℕ). join_of first 60 x) f ∙ sym (later_one first s (subst (λ (k : ℕ). length s ≤ k) e h))

pub later_two_is : (first : Option ℕ) (s : List ℕ) {n : ℕ} {i j k : Option ℕ}
    → n ≡ cut_at colon s → n < length s → i ≡ part_of (take n s) → j ≡ join_of first 60 i
    → k ≡ part_of (take (length s - (n + 1)) (drop (n + 1) s)) → join_of j 60 k ≡ later_of first s
later_two_is first s {n} {i} {j} {k} e h f g l =
    let t : k ≡ part_of (drop (n + 1) s) = l ∙ ap part_of (tail_is s (n + 1)) in
    let v : later_of first s
    ≡ join_of (join_of first 60 (part_of (take (cut_at colon s) s))) 60 (part_of (drop (cut_at colon s + 1) s)) =
    later_two first s (subst (λ (x : ℕ). x < length s) e h) in
    cc

pub clock_one_is : (s : List ℕ) {n : ℕ} {i : Option ℕ} → n ≡ cut_at colon s → length s ≤ n → i ≡ part_of (take n s) → i ≡ clock_of s
clock_one_is s {n} {i} e h f =
    let v : clock_of s ≡ part_of (take (cut_at colon s) s) = clock_one s (subst (λ (x : ℕ). length s ≤ x) e h) in
    cc

pub clock_more_is : (s : List ℕ) {n : ℕ} {i j : Option ℕ}
    → n ≡ cut_at colon s → n < length s → i ≡ part_of (take n s)
    → j ≡ later_of i (take (length s - (n + 1)) (drop (n + 1) s)) → j ≡ clock_of s
clock_more_is s {n} {i} {j} e h f g =
    let t : j ≡ later_of i (drop (n + 1) s) = g ∙ ap (later_of i) (tail_is s (n + 1)) in
    let v : clock_of s ≡ later_of (part_of (take (cut_at colon s) s)) (drop (cut_at colon s + 1) s) =
    clock_more s (subst (λ (x : ℕ). x < length s) e h) in
    cc

pub time_is : (s : List ℕ) {n : ℕ} {i j k : Option ℕ}
    → n ≡ cut_at point s → i ≡ clock_of (take n s) → j ≡ decimals_of tenths_digits s n → k ≡ join_of i 10 j → k ≡ time_of s
unfolding time_of
time_is s e f g h = cc
