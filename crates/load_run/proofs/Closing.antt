-- From the walk and its end to what the load answers: 0100 is told where no record stopped it, and where the numbers are as given the run is
-- that of a normal load.
-- Assumes nothing.
use mathlib.Core.Path.{◌≡◌, sym, ap, ◌∙◌, subst}
use mathlib.Core.Bool.{Bool, true, false}
use mathlib.Core.List.{List, []}
use Prim.Native.Nat.{ℕ, ◌≤◌}
use native.Mathlib.Omega.{arith}
use lib.ListN.{length}
use Rattle.store_desk.specs.declared.Desk.{Desk}
use Rattle.text_records.specs.Stream.{records_of}
use Rattle.text_records.specs.Cleaning.{column_of}
use Rattle.load.specs.declared.Heard.{Heard}
use Rattle.load.specs.declared.Numbers.{Numbers}
use Rattle.load.specs.declared.Outcome.{Outcome}
use Rattle.load.specs.declared.State.{State}
use Rattle.load.specs.declared.Totals.{Totals}
use Rattle.load.specs.Condition.{no_enddata}
use Rattle.load.specs.Item.{blame_none}
use Rattle.load.specs.Step.{nothing_open}
use Rattle.load.specs.Run.{Report, Run, load_of, all_reports, stored_in, totals_of}
use Rattle.load.specs.Translated.{run_in}
use Rattle.load.specs.Fits.{most_records}
use Rattle.load.proofs.Anew.{run_given}
use Rattle.load.proofs.Counts.{stream_records, stream_reports}
use Rattle.load_tell.specs.declared.Count.{Count}
use Rattle.load_tell.specs.Count.{count_of, totals_by, told, told_as, Reportable}
use Rattle.load_tell.proofs.Counting.{told_one_lem, totals_same, count_reportable}
use Rattle.load_run.specs.declared.Progress.{Progress}
use Rattle.load_run.specs.Loaded.{run_loaded, loaded_of, Walked, walked, walked_by, walk_of, closed, closed_as, close_of}
use Rattle.load_run.proofs.Turn.{run_so}

-- ---- the end, as the code has it
module _ (n : Count) {stopped : Bool} (reps : List ℕ) {r : Totals} where
  pub close_stopped : stopped ≡ true → r ≡ totals_by n → closed r reps ≡ close_of n stopped reps
  unfolding close_of
  close_stopped e f = ap (λ (y : Totals). closed y reps) f ∙ ap (λ (z : Bool). close_of n z reps) (sym e)

  pub close_told : {m : Count} {l : List ℕ} → stopped ≡ false → told m l ≡ told_as (told n reps) no_enddata 0 → r ≡ totals_by m
      → closed r l ≡ close_of n stopped reps
  unfolding close_of
  close_told {m} {l} e g f = ap (λ (y : Totals). closed y l) f ∙ ap closed_as g ∙ ap (λ (z : Bool). close_of n z reps) (sym e)

-- ---- after a run, it is what the run is told as
close_so : (s : State) (t : List ℕ) (b : Bool) (os : List Outcome) (rs : List Report) (reps : List ℕ)
    → let x = run_so s t b os rs in close_of (count_of os rs) b (stored_in reps rs) ≡ closed (totals_of x) (stored_in reps (all_reports x))
unfolding close_of all_reports column_of
close_so s t true os rs reps = ap (λ (y : Totals). closed y (stored_in reps rs)) (totals_same (run_so s t true os rs))
close_so s t false os rs reps =
    ap closed_as (told_one_lem os reps [] rs (blame_none no_enddata))
    ∙ ap (λ (y : Totals). closed y (stored_in reps (all_reports (run_so s t false os rs)))) (totals_same (run_so s t false os rs))

pub close_run : (x : Run) (reps : List ℕ)
    → close_of (count_of x.outcomes x.reports) x.stopped (stored_in reps x.reports) ≡ closed (totals_of x) (stored_in reps (all_reports x))
close_run x reps = close_so x.state x.store x.stopped x.outcomes x.reports reps

module _ {S : Type 0} (numbers : S → Numbers) (after : S → Heard → ℕ → S) (d : Desk) (t₀ stream reps₀ : List ℕ) (k₀ : S)
    (p : Progress) {t reps : List ℕ} {k : S} (e : walked p t reps k ≡ walk_of numbers after d t₀ stream reps₀ k₀) where
  abbrev ran : Run
  ran = run_in d 0 (numbers k₀) nothing_open t₀ (records_of stream)

  walk_count : p.count ≡ count_of ran.outcomes ran.reports
  unfolding walk_of walked_by
  walk_count = ap (λ (y : Walked S). y.count) e

  -- there is room for 0100
  pub close_room : length stream ≤ most_records → Reportable p.count no_enddata 0
  close_room h =
      let k : length ran.outcomes ≤ length stream = stream_records d (numbers k₀) t₀ stream in
      let m : length ran.reports ≤ length stream = stream_reports d (numbers k₀) t₀ stream in
      subst (λ (n : Count). Reportable n no_enddata 0) (sym walk_count)
      (count_reportable ran.outcomes ran.reports no_enddata 0 (omega arith) (omega arith) (omega arith) (omega arith))

  -- and under the numbers that it has, this is the load
  pub run_loaded_lem : {r : Totals} {ws : List ℕ} → (numbers k₀).anew ≡ false → closed r ws ≡ close_of p.count p.stopped reps
      → run_loaded r t ws ≡ loaded_of (load_of d t₀ stream) reps₀
  unfolding walk_of walked_by loaded_of load_of
  run_loaded_lem {r} {ws} g f =
      let a : closed r ws ≡ closed (totals_of ran) (stored_in reps₀ (all_reports ran)) =
      f ∙ (λ i. close_of (e i).count (e i).stopped (e i).reports) ∙ close_run ran reps₀ in
      (λ i. run_loaded (a i).totals (e i).store (a i).reports)
      ∙ ap (λ (x : Run). loaded_of x reps₀) (run_given d 0 (numbers k₀) nothing_open t₀ (records_of stream) g)
