-- A number's whole part, read in the scan that finds its end: the digits in front have no point among them, so they are the whole part, or the
-- whole part goes on and is malformed, whatever stands behind it.
-- Assumes nothing.
use Rattle.std.specs.Prelude.{None, Option, Some}
use mathlib.Core.Path.{◌≡◌, refl, sym, ap, ◌∙◌}
use mathlib.Core.List.{List}
use Prim.Native.Nat.{ℕ, ◌+◌, ◌<◌, ◌≤◌}
use native.Mathlib.Nat.{zero-add}
use native.Mathlib.Omega.{arith}
use lib.Dec.{eqb}
use lib.ListN.{length, get_or, take, drop}
use borrow.Author.Tests.{ne_eqb}
use Rattle.cells.specs.Scan.{span}
use Rattle.cells.proofs.Split.{by_eq, not_of_false}
use Rattle.cells.proofs.Scan.{span_le, span_below, span_past}
use Rattle.value.specs.declared.DigitRun.{DigitRun}
use Rattle.value.specs.Integer.{integer_of}
use Rattle.value.specs.Digits.{is_digit, digits_at}
use Rattle.value.specs.Parts.{point, is_other, cut_at, before, decimals_of}
use Rattle.value.specs.Number.{fraction_digits, numbered_of, number_of}
use Rattle.value.proofs.Runs.{decimal_low, run_value, run_end, integer_exact, integer_none, integer_longer}
use Rattle.value.proofs.Cuts.{cut_turn, cut_found, cut_end, cut_within}
use Rattle.value.proofs.Numbers.{whole_malformed, number_is}

module _ (s : List ℕ) {d : DigitRun} (e : d ≡ digits_at 10 s 0) where
  ends : d.end ≡ span (is_digit 10) s
  ends = run_end 10 s 0 e ∙ zero-add (span (is_digit 10) s)

  -- the scan for the point may start behind them
  no_point : d.end + cut_at point (drop d.end s) ≡ cut_at point s
  unfolding cut_at
  no_point =
      let n : d.end ≡ span (is_digit 10) s = ends in
      let l : span (is_digit 10) s ≤ length s = span_le (is_digit 10) s in
      sym
      (span_past (is_other point) s d.end (omega arith)
      (λ k h.
      let b : 48 ≤ get_or s k 0 = decimal_low (get_or s k 0) (span_below (is_digit 10) s k (omega arith)) in
      not_of_false (eqb (get_or s k 0) point) (ne_eqb (get_or s k 0) point (omega arith))))

  -- the point or the end follows
  pub whole_ends : length s ≤ d.end → d.end ≡ cut_at point s
  whole_ends h = cut_end point s d.end h no_point

  pub whole_points : d.end < length s → get_or s d.end 0 ≡ point → d.end ≡ cut_at point s
  whole_points h f = cut_found point s d.end h f no_point

  -- or the whole part goes on
  longer : (d.end ≡ cut_at point s → ⊥) → integer_of (before (cut_at point s) s) ≡ None
  longer f =
      let n : d.end ≡ span (is_digit 10) s = ends in
      let p : d.end + cut_at point (drop d.end s) ≡ cut_at point s = no_point in
      integer_longer s (cut_at point s) (omega arith) (cut_within point s)

  pub whole_none : d.end ≡ 0 → None ≡ integer_of (before (cut_at point s) s)
  whole_none z =
      by_eq d.end (cut_at point s)
      (λ q. sym (ap (λ (k : ℕ). integer_of (take k s)) (sym q ∙ ends) ∙ integer_none s (sym ends ∙ z)))
      (λ f. sym (longer f))

  pub whole_other : d.end < length s → (get_or s d.end 0 ≡ point → ⊥) → None ≡ integer_of (before (cut_at point s) s)
  whole_other h f =
      let p : d.end + 1 + cut_at point (drop (d.end + 1) s) ≡ cut_at point s = cut_turn point s d.end h f no_point in
      sym (longer (λ q. omega arith))

  pub whole_good : (d.end ≡ 0 → ⊥) → d.end ≡ cut_at point s → Some d.value ≡ integer_of (before (cut_at point s) s)
  whole_good z q =
      let n : d.end ≡ span (is_digit 10) s = ends in
      ap Some (run_value 10 s 0 e)
      ∙ sym (ap (λ (k : ℕ). integer_of (take k s)) (sym q ∙ ends) ∙ integer_exact s (omega arith))

  -- where the whole part goes on, the fraction does not count
  pub number_by : {i j : Option ℕ} → i ≡ integer_of (before (cut_at point s) s) → j ≡ decimals_of fraction_digits s d.end → numbered_of i j ≡ number_of s
  number_by {i} {j} f g =
      by_eq d.end (cut_at point s)
      (λ q. number_is s q (f ∙ ap (λ (k : ℕ). integer_of (take k s)) (sym q)) g)
      (λ ne.
      whole_malformed j (f ∙ longer ne)
      ∙ sym (whole_malformed (decimals_of fraction_digits s (cut_at point s)) (longer ne))
      ∙ number_is s {n = cut_at point s} refl refl refl)
