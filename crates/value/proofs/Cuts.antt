-- A field cut at a character: where the cut stands, and the digits behind a point; by the laws of scanning.
-- Assumes nothing.
use Rattle.std.specs.Prelude.{None, Option, Some}
use mathlib.Core.Path.{◌≡◌, refl, sym, ap, ◌∙◌, subst}
use mathlib.Core.Bool.{Bool, true, false, cond}
use mathlib.Core.List.{List, [], ◌∷◌}
use Prim.Native.Nat.{ℕ, suc, ◌+◌, ◌-◌, ◌<◌, ◌≤◌, zero-le}
use native.Mathlib.Numerals.{one-add}
use native.Mathlib.Omega.{arith}
use Rattle.std.specs.List.{prefix_len, position_or_len, position}
use Rattle.std.specs.Option.{unwrap_or}
use Rattle.cells.specs.Scan.{span}
use lib.Dec.{eqb, leb}
use lib.ListN.{length, get_or, take, drop}
use lib.Seq.{length-take-le}
use borrow.Author.Tests.{lt-ltb, le-ltb, le-leb, lt-leb, eq-eqb, ne_eqb}
use Rattle.cells.proofs.Split.{by_lt, by_le, cond-true, cond-false, not_of_true, not_of_false}
use Rattle.cells.proofs.Scan.{span_le, scan_turn, scan_stop, scan_end}
use Rattle.cells.proofs.Put.{tail_is}
use Rattle.value.specs.Integer.{cap, integer_of, AtMost}
use Rattle.value.specs.Parts.{is_other, cut_at, after, within, few_of, decimals_of}
use Rattle.value.proofs.Digits.{integer_capped}

-- ---- where the first b stands: as `position` says it, and from a place on
prefix_span : (p : ℕ → Bool) (s : List ℕ) → prefix_len p s ≡ span p s
unfolding span
prefix_span p [] = refl
prefix_span p (c ∷ s) = ap (λ (n : ℕ). cond (p c) n 0) (one-add (prefix_len p s) ∙ ap suc (prefix_span p s))

pub cut_within : (b : ℕ) (s : List ℕ) → cut_at b s ≤ length s
unfolding cut_at
cut_within b s = span_le (is_other b) s

pub cut_position : (b : ℕ) (s : List ℕ) → unwrap_or (position (λ c. eqb c b) s) (length s) ≡ cut_at b s
unfolding cut_at
cut_position b s =
    let n : ℕ = position_or_len (λ c. eqb c b) s in
    let e : n ≡ cut_at b s = prefix_span (is_other b) s in
    let h : cut_at b s ≤ length s = cut_within b s in
    by_lt n (length s) (λ l. rw (lt-ltb n (length s) l) e) (λ l. rw (le-ltb n (length s) l) (omega arith))

pub cut_turn : (b : ℕ) (s : List ℕ) (i : ℕ) {e : ℕ}
    → i < length s → (get_or s i 0 ≡ b → ⊥) → i + cut_at b (drop i s) ≡ e → i + 1 + cut_at b (drop (i + 1) s) ≡ e
unfolding cut_at
cut_turn b s i h f g =
    scan_turn (is_other b) s i {b = true} h (sym (not_of_false (eqb (get_or s i 0) b) (ne_eqb (get_or s i 0) b f))) refl g

pub cut_found : (b : ℕ) (s : List ℕ) (i : ℕ) {e : ℕ} → i < length s → get_or s i 0 ≡ b → i + cut_at b (drop i s) ≡ e → i ≡ e
unfolding cut_at
cut_found b s i h f g =
    scan_stop (is_other b) s i {b = false} h (sym (not_of_true (eqb (get_or s i 0) b) (eq-eqb (get_or s i 0) b f))) refl g

pub cut_end : (b : ℕ) (s : List ℕ) (i : ℕ) {e : ℕ} → length s ≤ i → i + cut_at b (drop i s) ≡ e → i ≡ e
unfolding cut_at
cut_end b s i h g = scan_end (is_other b) s i h g

-- what stands before it is as long as it says
pub cut_count : (b : ℕ) (s : List ℕ) {n : ℕ} → n ≡ cut_at b s → n ≡ length (take n s)
cut_count b s {n} e = sym (length-take-le n s (subst (λ (k : ℕ). k ≤ length s) (sym e) (cut_within b s)))

-- ---- the digits behind a point
pub decimals_none : (most : ℕ) (s : List ℕ) (n : ℕ) → length s ≤ n → decimals_of most s n ≡ Some 0
unfolding decimals_of
decimals_none most s n h = cond-false (within n s) (few_of most (after n s)) (Some 0) (le-ltb n (length s) h)

pub decimals_many : (most : ℕ) (s : List ℕ) (n : ℕ) → n < length s → most < length (after n s) → decimals_of most s n ≡ None
unfolding decimals_of
decimals_many most s n h g =
    cond-true (within n s) (few_of most (after n s)) (Some 0) (lt-ltb n (length s) h)
    ∙ cond-false (leb (length (after n s)) most) (integer_of (after n s)) None (lt-leb (length (after n s)) most g)

pub decimals_few : (most : ℕ) (s : List ℕ) (n : ℕ) → n < length s → length (after n s) ≤ most → decimals_of most s n ≡ integer_of (after n s)
unfolding decimals_of
decimals_few most s n h g =
    cond-true (within n s) (few_of most (after n s)) (Some 0) (lt-ltb n (length s) h)
    ∙ cond-true (leb (length (after n s)) most) (integer_of (after n s)) None (le-leb (length (after n s)) most g)

pub decimals_capped : (most : ℕ) (s : List ℕ) (n : ℕ) → AtMost cap (decimals_of most s n)
decimals_capped most s n =
    by_lt n (length s)
    (λ h.
    by_le (length (after n s)) most
    (λ g. subst (λ (i : Option ℕ). AtMost cap i) (sym (decimals_few most s n h g)) (integer_capped (after n s)))
    (λ g. subst (λ (i : Option ℕ). AtMost cap i) (sym (decimals_many most s n h g)) tt))
    (λ h. subst (λ (i : Option ℕ). AtMost cap i) (sym (decimals_none most s n h)) (zero-le {n = cap}))

-- ---- from the parts as the code has them
pub decimals_many_is : (most : ℕ) (s : List ℕ) (n : ℕ)
    → n < length s → most < length (take (length s - (n + 1)) (drop (n + 1) s)) → None ≡ decimals_of most s n
decimals_many_is most s n h g = sym (decimals_many most s n h (subst (λ (l : List ℕ). most < length l) (tail_is s (n + 1)) g))

pub decimals_few_is : (most : ℕ) (s : List ℕ) (n : ℕ) {i : Option ℕ}
    → n < length s → length (take (length s - (n + 1)) (drop (n + 1) s)) ≤ most
    → i ≡ integer_of (take (length s - (n + 1)) (drop (n + 1) s)) → i ≡ decimals_of most s n
decimals_few_is most s n h g e =
    e ∙ ap integer_of (tail_is s (n + 1))
    ∙ sym (decimals_few most s n h (subst (λ (l : List ℕ). length l ≤ most) (tail_is s (n + 1)) g))
