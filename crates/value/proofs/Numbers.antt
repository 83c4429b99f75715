-- Cue numbers, versions and pages from their parts, case by case; by computation and the tests' facts.
-- Hypotheses have the form in which a match leaves them.
-- Assumes nothing.
use Rattle.std.specs.Prelude.{Err, None, Ok, Option, Some}
use mathlib.Core.Path.{◌≡◌, ap, ◌∙◌, subst}
use mathlib.Core.List.{List}
use Prim.Native.Nat.{ℕ, ◌+◌, ◌-◌, ◌*◌, ◌<◌, ◌≤◌}
use native.Mathlib.Omega.{arith}
use lib.ListN.{length, take, drop}
use borrow.Author.Tests.{lt-ltb, le-ltb, eq-eqb, ne_eqb}
use Rattle.cells.proofs.Split.{by_le}
use Rattle.cells.proofs.Put.{tail_is}
use Rattle.value.specs.Integer.{cap, integer_of, AtMost}
use Rattle.value.specs.Parts.{point, colon, cut_at, before, after, decimals_of}
use Rattle.value.specs.Number.{whole_max, fraction_digits, number, numbered_of, number_of}
use Rattle.value.specs.Number.{borne_max, fraction_span, no_number, borne_by, borne_of}
use Rattle.value.specs.Field.{version, versioned_of, version_of, paged_of, page_of}
use Rattle.value.proofs.Cuts.{decimals_capped}
use Rattle.value.specs.declared.NumberError.TheVariants.{Malformed as BadNumber, TooLarge}

-- ---- a number from its whole part and its fraction
pub whole_malformed : {i : Option ℕ} (j : Option ℕ) → i ≡ None → numbered_of i j ≡ Err BadNumber
unfolding numbered_of
whole_malformed j e = ap (λ (x : Option ℕ). numbered_of x j) e

pub fraction_malformed : {i j : Option ℕ} {w : ℕ} → i ≡ Some w → j ≡ None → numbered_of i j ≡ Err BadNumber
unfolding numbered_of
fraction_malformed {i} {j} {w} e f = ap (λ (x : Option ℕ). numbered_of x j) e ∙ ap (λ (y : Option ℕ). numbered_of (Some w) y) f

module _ {i j : Option ℕ} {w f : ℕ} (e : i ≡ Some w) (g : j ≡ Some f) where
  parts : numbered_of i j ≡ numbered_of (Some w) (Some f)
  parts = ap (λ (x : Option ℕ). numbered_of x j) e ∙ ap (λ (y : Option ℕ). numbered_of (Some w) y) g

  pub whole_large : whole_max < w → numbered_of i j ≡ Err TooLarge
  unfolding numbered_of
  whole_large h = parts ∙ rw (lt-ltb whole_max w h)

  pub number_zero : w ≤ whole_max → w + f ≡ 0 → numbered_of i j ≡ Err BadNumber
  unfolding numbered_of
  number_zero h z = parts ∙ rw (le-ltb whole_max w h, eq-eqb (w + f) 0 z)

  pub number_good : w ≤ whole_max → (w + f ≡ 0 → ⊥) → numbered_of i j ≡ Ok (number w f)
  unfolding numbered_of
  number_good h z = parts ∙ rw (le-ltb whole_max w h, ne_eqb (w + f) 0 z)

-- ---- what two parts write, whatever the desk could keep
pub borne_whole : {i : Option ℕ} (j : Option ℕ) → i ≡ None → borne_by i j ≡ no_number
unfolding borne_by
borne_whole j e = ap (λ (x : Option ℕ). borne_by x j) e

pub borne_fraction : {i j : Option ℕ} {w : ℕ} → i ≡ Some w → j ≡ None → borne_by i j ≡ no_number
unfolding borne_by
borne_fraction {i} {j} {w} e f = ap (λ (x : Option ℕ). borne_by x j) e ∙ ap (λ (y : Option ℕ). borne_by (Some w) y) f

module _ {i j : Option ℕ} {w f : ℕ} (e : i ≡ Some w) (g : j ≡ Some f) where
  borne_parts : borne_by i j ≡ borne_by (Some w) (Some f)
  borne_parts = ap (λ (x : Option ℕ). borne_by x j) e ∙ ap (λ (y : Option ℕ). borne_by (Some w) y) g

  pub borne_large : borne_max < w → borne_by i j ≡ no_number
  unfolding borne_by
  borne_large h = borne_parts ∙ rw (lt-ltb borne_max w h)

  pub borne_good : w ≤ borne_max → borne_by i j ≡ w * fraction_span + f
  unfolding borne_by
  borne_good h = borne_parts ∙ rw (le-ltb borne_max w h)

-- far below what wraps
borne_fits : (i j : Option ℕ) → AtMost cap j → borne_by i j ≤ no_number + cap
unfolding borne_by
borne_fits None j h = omega arith
borne_fits (Some w) None h = omega arith
borne_fits (Some w) (Some f) h =
    by_le w borne_max
    (λ l. rw (le-ltb borne_max w l) (let z : w * fraction_span + f ≤ no_number + cap = omega arith in z))
    (λ l. rw (lt-ltb borne_max w l) (let z : no_number ≤ no_number + cap = omega arith in z))

pub borne_most : (s : List ℕ) → borne_of s ≤ no_number + cap
unfolding borne_of
borne_most s = borne_fits (integer_of (before (cut_at point s) s)) (decimals_of fraction_digits s (cut_at point s)) (decimals_capped _ _ _)

-- ---- a version
pub major_malformed : {i : Option ℕ} (j : Option ℕ) → i ≡ None → versioned_of i j ≡ None
unfolding versioned_of
major_malformed j e = ap (λ (x : Option ℕ). versioned_of x j) e

pub minor_malformed : {i j : Option ℕ} {a : ℕ} → i ≡ Some a → j ≡ None → versioned_of i j ≡ None
unfolding versioned_of
minor_malformed {i} {j} {a} e f = ap (λ (x : Option ℕ). versioned_of x j) e ∙ ap (λ (y : Option ℕ). versioned_of (Some a) y) f

pub version_good : {i j : Option ℕ} {a b : ℕ} → i ≡ Some a → j ≡ Some b → versioned_of i j ≡ Some (version a b)
unfolding versioned_of
version_good {i} {j} {a} e f = ap (λ (x : Option ℕ). versioned_of x j) e ∙ ap (λ (y : Option ℕ). versioned_of (Some a) y) f

pub version_whole : (s : List ℕ) → length s ≤ cut_at colon s → version_of s ≡ None
unfolding version_of
version_whole s h = rw (le-ltb (cut_at colon s) (length s) h)

pub version_parts : (s : List ℕ) → cut_at colon s < length s
    → version_of s ≡ versioned_of (integer_of (before (cut_at colon s) s)) (integer_of (after (cut_at colon s) s))
unfolding version_of
version_parts s h = rw (lt-ltb (cut_at colon s) (length s) h)

-- ---- a page
pub page_malformed : (limit : ℕ) {i : Option ℕ} → i ≡ None → paged_of limit i ≡ None
unfolding paged_of
page_malformed limit e = ap (λ (x : Option ℕ). paged_of limit x) e

module _ (limit : ℕ) {i : Option ℕ} {v : ℕ} (e : i ≡ Some v) where
  pub page_zero : v ≡ 0 → paged_of limit i ≡ None
  unfolding paged_of
  page_zero z = ap (λ (x : Option ℕ). paged_of limit x) e ∙ rw (eq-eqb v 0 z)

  pub page_high : (v ≡ 0 → ⊥) → limit < v → paged_of limit i ≡ None
  unfolding paged_of
  page_high z h = ap (λ (x : Option ℕ). paged_of limit x) e ∙ rw (ne_eqb v 0 z, lt-ltb limit v h)

  pub page_good : (v ≡ 0 → ⊥) → v ≤ limit → paged_of limit i ≡ Some v
  unfolding paged_of
  page_good z h = ap (λ (x : Option ℕ). paged_of limit x) e ∙ rw (ne_eqb v 0 z, le-ltb limit v h)

-- ---- from the parts as the code has them
pub number_is : (s : List ℕ) {n : ℕ} {i j : Option ℕ}
    → n ≡ cut_at point s → i ≡ integer_of (take n s) → j ≡ decimals_of fraction_digits s n → numbered_of i j ≡ number_of s
unfolding number_of
number_is s e f g = cc

pub borne_is : (s : List ℕ) {n : ℕ} {i j : Option ℕ}
    → n ≡ cut_at point s → i ≡ integer_of (take n s) → j ≡ decimals_of fraction_digits s n → borne_by i j ≡ borne_of s
unfolding borne_of
borne_is s e f g = cc

pub version_none : (s : List ℕ) {n : ℕ} → n ≡ cut_at colon s → length s ≤ n → version_of s ≡ None
version_none s e h = version_whole s (subst (λ (k : ℕ). length s ≤ k) e h)

pub version_is : (s : List ℕ) {n : ℕ} {i j : Option ℕ}
    → n ≡ cut_at colon s → n < length s → i ≡ integer_of (take n s) → j ≡ integer_of (take (length s - (n + 1)) (drop (n + 1) s))
    → versioned_of i j ≡ version_of s
version_is s {n} {i} {j} e h f g =
    let t : j ≡ integer_of (drop (n + 1) s) = g ∙ ap integer_of (tail_is s (n + 1)) in
    let v : version_of s ≡ versioned_of (integer_of (take (cut_at colon s) s)) (integer_of (drop (cut_at colon s + 1) s)) =
    version_parts s (subst (λ (k : ℕ). k < length s) e h) in
    cc

pub page_is : (limit : ℕ) (s : List ℕ) {i : Option ℕ} → i ≡ integer_of s → paged_of limit i ≡ page_of limit s
unfolding page_of
page_is limit s e = ap (λ (x : Option ℕ). paged_of limit x) e
