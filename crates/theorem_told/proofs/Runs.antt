-- Records taken in two parts: the run of both is the run of the first, and then of the others from where it ended. By induction on the
-- first part, and by cases on whether a record stops the load.
-- Assumes nothing.
use mathlib.Core.Path.{◌≡◌, refl, sym, ap, ◌∙◌}
use mathlib.Core.Bool.{true, false, cond}
use mathlib.Core.List.{List, [], ◌∷◌, ◌++◌, append_assoc, append-nil}
use Prim.Native.Nat.{ℕ, suc, ◌+◌}
use native.Mathlib.Omega.{arith}
use lib.ListN.{length}
use Rattle.cells.proofs.Split.{by_test, clash, cond_ap, cond-true, cond-false}
use Rattle.store_desk.specs.declared.Desk.{Desk}
use Rattle.load.specs.declared.State.{State}
use Rattle.load.specs.Step.{Step, record_step, reported_of}
use Rattle.load.specs.Run.{Run, Report, stops, only, and_then, reports_at, run_from}
use Rattle.theorem_told.specs.Classes.{runs_joined, gone_on}

-- ---- in two parts
pub gone_stopped : (d : Desk) (n : ℕ) (x : Run) (rs : List (List ℕ)) → x.stopped ≡ true → gone_on d n x rs ≡ x
unfolding gone_on
gone_stopped d n x rs e = cond-true _ _ _ e

pub gone_joined : (d : Desk) (n : ℕ) (x : Run) (rs : List (List ℕ)) → x.stopped ≡ false
    → gone_on d n x rs ≡ runs_joined x (run_from d n x.state x.store rs)
unfolding gone_on
gone_joined d n x rs e = cond-false _ _ _ e

-- a record before a run that goes on
and_goes : (d : Desk) (n m : ℕ) (r : List ℕ) (x : Step) (y : Run) (rs : List (List ℕ))
    → and_then n r x (gone_on d m y rs) ≡ gone_on d m (and_then n r x y) rs
unfolding gone_on
and_goes d n m r x y rs =
    let z = run_from d m y.state y.store rs in
    cond_ap (λ (w : Run). and_then n r x w) y.stopped y (runs_joined y z)
    ∙ ap
    (λ (l : List Report). cond y.stopped (and_then n r x y)
    (record { state = z.state; store = z.store; stopped = z.stopped; outcomes = x.outcome ∷ (y.outcomes ++ z.outcomes); reports = l }))
    (sym (append_assoc (reports_at n r (reported_of r x)) y.reports z.reports))

pub run_append : (d : Desk) (n : ℕ) (s : State) (t : List ℕ) (rs more : List (List ℕ))
    → run_from d n s t (rs ++ more) ≡ gone_on d (n + length rs) (run_from d n s t rs) more
unfolding run_from gone_on
run_append d n s t [] more = let z : n ≡ n + 0 = omega arith in ap (λ (m : ℕ). run_from d m s t more) z
run_append d n s t (r ∷ rs) more =
    let x = record_step d s r t in
    let rest = run_from d (n + 1) x.state x.store rs in
    let m : n + 1 + length rs ≡ n + suc (length rs) = omega arith in
    ap (λ (y : Run). cond (stops x.outcome) (only (n + 1) r x) (and_then (n + 1) r x y)) (run_append d (n + 1) x.state x.store rs more)
    ∙ ap (λ (y : Run). cond (stops x.outcome) (only (n + 1) r x) y)
    (and_goes d (n + 1) (n + 1 + length rs) r x rest more ∙ ap (λ (k : ℕ). gone_on d k (and_then (n + 1) r x rest) more) m)
    ∙ sym (cond_ap (λ (y : Run). gone_on d (n + suc (length rs)) y more) (stops x.outcome) _ _)

-- with no others, nothing more
pub gone_none : (d : Desk) (n : ℕ) (x : Run) → gone_on d n x [] ≡ x
unfolding gone_on run_from
gone_none d n x =
    by_test (λ (y : Run). y ≡ x) x.stopped _ _ (λ e. refl)
    (λ e i.
    record {
      state = x.state;
      store = x.store;
      stopped = sym e i;
      outcomes = append-nil x.outcomes i;
      reports = append-nil x.reports i;
    })

-- ---- a load that did not stop read them all
pub run_read : (d : Desk) (n : ℕ) (s : State) (t : List ℕ) (rs : List (List ℕ)) → (run_from d n s t rs).stopped ≡ false
    → length (run_from d n s t rs).outcomes ≡ length rs
unfolding run_from
run_read d n s t [] = λ h. refl
run_read d n s t (r ∷ rs) =
    let x = record_step d s r t in
    by_test (λ (y : Run). y.stopped ≡ false → length y.outcomes ≡ suc (length rs)) (stops x.outcome) _ _
    (λ e h. clash {b = true} refl h)
    (λ e h. ap suc (run_read d (n + 1) x.state x.store rs h))

-- ---- one record alone
abbrev pub alone : ℕ → List ℕ → Step → Run
alone n r x =
    record {
      state = x.state;
      store = x.store;
      stopped = stops x.outcome;
      outcomes = x.outcome ∷ [];
      reports = reports_at n r (reported_of r x);
    }

pub run_one : (d : Desk) (n : ℕ) (s : State) (t r : List ℕ) → run_from d n s t (r ∷ []) ≡ alone (n + 1) r (record_step d s r t)
unfolding run_from
run_one d n s t r =
    let x = record_step d s r t in
    let own = reports_at (n + 1) r (reported_of r x) in
    by_test (λ (y : Run). y ≡ alone (n + 1) r x) (stops x.outcome) _ _
    (λ e i. record { state = x.state; store = x.store; stopped = sym e i; outcomes = x.outcome ∷ []; reports = own })
    (λ e i. record { state = x.state; store = x.store; stopped = sym e i; outcomes = x.outcome ∷ []; reports = append-nil own i })
