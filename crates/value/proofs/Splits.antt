-- A field put together from parts reads as its parts: what a writer's inverse law stands on. By where the cut falls.
-- "xs has no b" is `span (is_other b) xs ≡ length xs`.
-- Assumes nothing.
use Rattle.std.specs.Prelude.{Option, Some}
use mathlib.Core.Path.{◌≡◌, refl, sym, ap, ◌∙◌, subst}
use mathlib.Core.List.{List, ◌∷◌, ◌++◌}
use Prim.Native.Nat.{ℕ, suc, ◌+◌, ◌<◌, ◌≤◌}
use native.Mathlib.Nat.{le_of_eq}
use native.Mathlib.Omega.{arith}
use lib.Dec.{eqb}
use lib.ListN.{length, take, drop, length-append}
use lib.Seq.{take-length, take-append_seam, drop-append-add}
use borrow.Author.Tests.{eq-eqb}
use Rattle.cells.specs.Scan.{span}
use Rattle.cells.proofs.Split.{not_of_true}
use Rattle.cells.proofs.Scan.{span_upto}
use Rattle.value.specs.Integer.{integer_of}
use Rattle.value.specs.Parts.{point, colon, is_other, cut_at, decimals_of}
use Rattle.value.specs.Number.{fraction_digits, numbered_of, number_of}
use Rattle.value.specs.Time.{tenths_digits, part_of, join_of, later_of, clock_of, time_of}
use Rattle.value.proofs.Cuts.{decimals_none, decimals_few}
use Rattle.value.proofs.Numbers.{number_is}
use Rattle.value.proofs.Times.{later_one, later_two, clock_one, clock_more, time_is}

-- ---- no b: nothing is cut off
module _ (b : ℕ) (s : List ℕ) (h : span (is_other b) s ≡ length s) where
  whole_cut : cut_at b s ≡ length s
  unfolding cut_at
  whole_cut = h

  whole_end : length s ≤ cut_at b s
  whole_end = le_of_eq (sym whole_cut)

  whole_before : take (cut_at b s) s ≡ s
  whole_before = ap (λ (k : ℕ). take k s) whole_cut ∙ take-length s

  whole_decimals : (most : ℕ) → decimals_of most s (cut_at b s) ≡ Some 0
  whole_decimals most = decimals_none most s (cut_at b s) whole_end

-- ---- xs, a b, and ys
module _ (b : ℕ) (xs ys : List ℕ) (h : span (is_other b) xs ≡ length xs) where
  parts_cut : cut_at b (xs ++ (b ∷ ys)) ≡ length xs
  unfolding cut_at
  parts_cut = span_upto (is_other b) xs b ys h (not_of_true (eqb b b) (eq-eqb b b refl))

  parts_within : cut_at b (xs ++ (b ∷ ys)) < length (xs ++ (b ∷ ys))
  parts_within =
      let e : length (xs ++ (b ∷ ys)) ≡ length xs + suc (length ys) = length-append xs (b ∷ ys) in
      let c : cut_at b (xs ++ (b ∷ ys)) ≡ length xs = parts_cut in
      omega arith

  parts_before : take (cut_at b (xs ++ (b ∷ ys))) (xs ++ (b ∷ ys)) ≡ xs
  parts_before = ap (λ (k : ℕ). take k (xs ++ (b ∷ ys))) parts_cut ∙ take-append_seam xs (b ∷ ys)

  parts_after : drop (cut_at b (xs ++ (b ∷ ys)) + 1) (xs ++ (b ∷ ys)) ≡ ys
  parts_after = ap (λ (k : ℕ). drop (k + 1) (xs ++ (b ∷ ys))) parts_cut ∙ drop-append-add xs (b ∷ ys) 1

  parts_decimals : (most : ℕ) → length ys ≤ most → decimals_of most (xs ++ (b ∷ ys)) (cut_at b (xs ++ (b ∷ ys))) ≡ integer_of ys
  parts_decimals most g =
      decimals_few most (xs ++ (b ∷ ys)) (cut_at b (xs ++ (b ∷ ys))) parts_within
      (subst (λ (l : List ℕ). length l ≤ most) (sym parts_after) g)
      ∙ ap integer_of parts_after

-- ---- a number
pub number_whole : (s : List ℕ) → span (is_other point) s ≡ length s → number_of s ≡ numbered_of (integer_of s) (Some 0)
number_whole s h =
    sym (number_is s refl (ap integer_of (sym (whole_before point s h))) (sym (whole_decimals point s h fraction_digits)))

pub number_parts : (xs ys : List ℕ) → span (is_other point) xs ≡ length xs → length ys ≤ fraction_digits
    → number_of (xs ++ (point ∷ ys)) ≡ numbered_of (integer_of xs) (integer_of ys)
number_parts xs ys h g =
    sym (number_is (xs ++ (point ∷ ys)) refl (ap integer_of (sym (parts_before point xs ys h))) (sym (parts_decimals point xs ys h fraction_digits g)))

-- ---- a time
pub time_whole : (s : List ℕ) → span (is_other point) s ≡ length s → time_of s ≡ (join_of (clock_of s) 10 (Some 0))
time_whole s h = sym (time_is s refl (ap clock_of (sym (whole_before point s h))) (sym (whole_decimals point s h tenths_digits)) refl)

pub time_parts : (xs ys : List ℕ) → span (is_other point) xs ≡ length xs → length ys ≤ tenths_digits
    → time_of (xs ++ (point ∷ ys)) ≡ (join_of (clock_of xs) 10 (integer_of ys))
time_parts xs ys h g =
    sym (time_is (xs ++ (point ∷ ys)) refl (ap clock_of (sym (parts_before point xs ys h))) (sym (parts_decimals point xs ys h tenths_digits g)) refl)

pub clock_whole : (s : List ℕ) → span (is_other colon) s ≡ length s → clock_of s ≡ part_of s
clock_whole s h = clock_one s (whole_end colon s h) ∙ ap part_of (whole_before colon s h)

pub clock_parts : (xs ys : List ℕ) → span (is_other colon) xs ≡ length xs → clock_of (xs ++ (colon ∷ ys)) ≡ later_of (part_of xs) ys
clock_parts xs ys h =
    let e : take (cut_at colon (xs ++ (colon ∷ ys))) (xs ++ (colon ∷ ys)) ≡ xs = parts_before colon xs ys h in
    let f : drop (cut_at colon (xs ++ (colon ∷ ys)) + 1) (xs ++ (colon ∷ ys)) ≡ ys = parts_after colon xs ys h in
    clock_more (xs ++ (colon ∷ ys)) (parts_within colon xs ys h) ∙ rw (e, f)

pub later_whole : (first : Option ℕ) (s : List ℕ) → span (is_other colon) s ≡ length s → later_of first s ≡ join_of first 60 (part_of s)
later_whole first s h = later_one first s (whole_end colon s h)

pub later_parts : (first : Option ℕ) (xs ys : List ℕ) → span (is_other colon) xs ≡ length xs
    → later_of first (xs ++ (colon ∷ ys)) ≡ join_of (join_of first 60 (part_of xs)) 60 (part_of ys)
later_parts first xs ys h =
    let e : take (cut_at colon (xs ++ (colon ∷ ys))) (xs ++ (colon ∷ ys)) ≡ xs = parts_before colon xs ys h in
    let f : drop (cut_at colon (xs ++ (colon ∷ ys)) + 1) (xs ++ (colon ∷ ys)) ≡ ys = parts_after colon xs ys h in
    later_two first (xs ++ (colon ∷ ys)) (parts_within colon xs ys h) ∙ rw (e, f)
