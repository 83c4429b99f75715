-- The closing number is the last error's condition, else the last warning's, else 0. By induction on the reports.
-- Assumes nothing.
use mathlib.Core.Path.{◌≡◌, refl, ap, ◌∙◌}
use mathlib.Core.Bool.{Bool, true, false, cond, not}
use mathlib.Core.List.{List, [], ◌∷◌}
use Prim.Native.Nat.{ℕ, zero, suc, ◌<◌, zero-le, suc-le-suc}
use native.Mathlib.Nat.{not-suc-le-zero, le_of_suc-le-suc}
use native.Mathlib.Omega.{arith}
use lib.Dec.{eqb}
use lib.ListN.{length}
use borrow.Author.Tests.{ne_eqb}
use Rattle.cells.proofs.Split.{cond-true, cond-false, not_of_false}
use Rattle.store_desk.proofs.Size.{within}
use Rattle.load.specs.Condition.{is_error}
use Rattle.load.specs.Run.{Run, Report, last_of, closing_of, all_reports, totals_of}
use Rattle.theorem_told.specs.Reports.{report_at, LastError, NoError, ClosingSaid}

-- ---- the last of a sort
module _ (p : ℕ → Bool) where
  last_none : (c : ℕ) (rs : List Report) → ((j : ℕ) → j < length rs → p (report_at rs j).condition ≡ false) → last_of p c rs ≡ c
  unfolding last_of
  last_none c [] h = refl
  last_none c (r ∷ rs) h =
      ap (λ (x : ℕ). last_of p x rs) (cond-false (p r.condition) r.condition c (h 0 (suc-le-suc zero-le)))
      ∙ last_none c rs (λ j l. h (suc j) (suc-le-suc l))

  last_at : (c : ℕ) (rs : List Report) (k : ℕ) → k < length rs → p (report_at rs k).condition ≡ true
      → ((j : ℕ) → k < j → j < length rs → p (report_at rs j).condition ≡ false) → last_of p c rs ≡ (report_at rs k).condition
  unfolding last_of
  last_at c [] k g e h = absurd (not-suc-le-zero g)
  last_at c (r ∷ rs) zero g e h =
      ap (λ (x : ℕ). last_of p x rs) (cond-true (p r.condition) r.condition c e)
      ∙ last_none r.condition rs (λ j l. h (suc j) (suc-le-suc zero-le) (suc-le-suc l))
  last_at c (r ∷ rs) (suc k) g e h =
      last_at (cond (p r.condition) r.condition c) rs k (le_of_suc-le-suc g) e (λ j a l. h (suc j) (suc-le-suc a) (suc-le-suc l))

-- ---- the closing number
error_some : (c : ℕ) → is_error c ≡ true → c ≡ 0 → ⊥
unfolding is_error
error_some c e z = let h = (within 70 c 149 e).0 in omega arith

module _ (rs : List Report) where
  closing_error : (k : ℕ) → LastError rs k → closing_of rs ≡ (report_at rs k).condition
  unfolding closing_of
  closing_error k h =
      let e : last_of is_error 0 rs ≡ (report_at rs k).condition = last_at is_error 0 rs k h.given h.error h.later in
      let z : eqb (report_at rs k).condition 0 ≡ false = ne_eqb (report_at rs k).condition 0 (error_some (report_at rs k).condition h.error) in
      rw (closing_of, e) (cond-false (eqb (report_at rs k).condition 0) (last_of (λ c. not (is_error c)) 0 rs) (report_at rs k).condition z)

  closing_warning : (k : ℕ) → NoError rs → length rs ≡ suc k → closing_of rs ≡ (report_at rs k).condition
  unfolding closing_of
  closing_warning k h l =
      let e : last_of is_error 0 rs ≡ 0 = last_none is_error 0 rs h in
      let w : last_of (λ c. not (is_error c)) 0 rs ≡ (report_at rs k).condition =
      last_at (λ c. not (is_error c)) 0 rs k (omega arith) (not_of_false _ (h k (omega arith))) (λ j a b. absurd (omega arith)) in
      rw (closing_of, e, w)

  closing_none : rs ≡ [] → closing_of rs ≡ 0
  unfolding closing_of last_of
  closing_none e = ap closing_of e

  closing_said : ClosingSaid rs (closing_of rs)
  closing_said = record { error = closing_error; warning = closing_warning; none = closing_none }

pub run_closing : (x : Run) → ClosingSaid (all_reports x) (totals_of x).closing
unfolding totals_of
run_closing x = closing_said (all_reports x)
