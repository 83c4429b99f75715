-- What the load answers: its totals, the store and the lent list (paper 01, "Reports, tallies, closing number").
-- Assumes nothing.
use Rattle.std.specs.Prelude.{Bool, false, cond, List, [], ℕ}
use Rattle.store_desk.specs.declared.Desk.{Desk}
use Rattle.text_records.specs.Stream.{records_of}
use Rattle.load.specs.declared.Heard.{Heard}
use Rattle.load.specs.declared.Numbers.{Numbers}
use Rattle.load.specs.declared.Totals.{Totals}
use Rattle.load.specs.Condition.{no_enddata}
use Rattle.load.specs.Step.{nothing_open}
use Rattle.load.specs.Translated.{Note, run_in, notes_in}
use Rattle.load_hear.specs.Naming.{noted_by}
use Rattle.load_tell.specs.declared.Count.{Count}
use Rattle.load.specs.Run.{Run, all_reports, stored_in, totals_of}
use Rattle.load_run.specs.declared.Progress.{Progress}
use Rattle.load_tell.specs.Count.{count_of, totals_by, Told, told, told_as}

pub record Loaded : Type 0 where
  pub totals : Totals
  pub store : List ℕ
  pub reports : List ℕ

abbrev pub run_loaded : Totals → List ℕ → List ℕ → Loaded
run_loaded r t reps = record { totals = r; store = t; reports = reps }

-- a run's totals, its store, and the lent list with its reports
unfoldable pub loaded_of : Run → List ℕ → Loaded
loaded_of x reps = run_loaded (totals_of x) x.store (stored_in reps (all_reports x))

-- before the first record: nothing is open, and nothing was read
unfoldable pub nothing_begun : Progress
nothing_begun = record { held = record { state = nothing_open; slot = 0 }; count = count_of [] []; stopped = false }

-- ---- the walk over the records: the counters and whether a record stopped it, the store, the lent list, and what was noted
pub record Walked (S : Type 0) : Type 0 where
  pub count : Count
  pub stopped : Bool
  pub store : List ℕ
  pub reports : List ℕ
  pub book : S

abbrev pub walked : {S : Type 0} → Progress → List ℕ → List ℕ → S → Walked S
walked p t reps s = record { count = p.count; stopped = p.stopped; store = t; reports = reps; book = s }

unfoldable pub walked_by : {S : Type 0} → (S → Heard → ℕ → S) → Run → List Note → List ℕ → S → Walked S
walked_by after x ns reps s =
    record {
      count = count_of x.outcomes x.reports;
      stopped = x.stopped;
      store = x.store;
      reports = stored_in reps x.reports;
      book = noted_by after s ns;
    }

unfoldable pub walk_of : {S : Type 0} → (S → Numbers) → (S → Heard → ℕ → S) → Desk → List ℕ → List ℕ → List ℕ → S → Walked S
walk_of numbers after d t stream reps s =
    let b = numbers s in
    walked_by after (run_in d 0 b nothing_open t (records_of stream)) (notes_in d b nothing_open t (records_of stream)) reps s

-- ---- the end: 0100 where no record stopped the load
pub record Closed : Type 0 where
  pub totals : Totals
  pub reports : List ℕ

abbrev pub closed : Totals → List ℕ → Closed
closed r reps = record { totals = r; reports = reps }

abbrev pub closed_as : Told → Closed
closed_as x = closed (totals_by x.count) x.list

unfoldable pub close_of : Count → Bool → List ℕ → Closed
close_of n stopped reps = cond stopped (closed_as (told n reps)) (closed_as (told_as (told n reps) no_enddata 0))
