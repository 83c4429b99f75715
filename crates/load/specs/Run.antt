-- The load: one step a record, until a record stops it; then reports, tallies and the closing number of what was read (paper 01,
-- "Keywords and conditions", ENDDATA; "Reports, tallies, closing number"; §4.2, §5.3; paper 02, C-11).
-- Assumes nothing.
use Rattle.std.specs.Prelude.{Bool, true, false, cond, not, List, [], ◌∷◌, ◌++◌, map, ℕ, suc, ◌+◌, ◌*◌, ◌/◌, ◌%◌, eqb, length, take}
use Rattle.cells.specs.Put.{put}
use Rattle.store_desk.specs.declared.Desk.{Desk}
use Rattle.text_records.specs.Stream.{records_of}
use Rattle.text_records.specs.Cleaning.{column_of}
use Rattle.load.specs.declared.Fault.{Fault}
use Rattle.load.specs.declared.State.{State}
use Rattle.load.specs.declared.Outcome.{Outcome}
use Rattle.load.specs.declared.Totals.{Totals}
use Rattle.load.specs.declared.Outcome.TheVariants.{Blank, Passed, Dropped, Obeyed, Stopped}
use Rattle.load.specs.Condition.{no_enddata, is_error}
use Rattle.load.specs.Step.{Step, record_step, reported_of, nothing_open}

-- ---- the fold

-- a report: the number of the record, from 1, the condition, and the column of the field that is blamed, from 1 (0: none is)
pub record Report : Type 0 where
  pub number : ℕ
  pub condition : ℕ
  pub column : ℕ

-- of a fault of record n, with the characters r as received: a place in its text is told as its column
abbrev pub report_of : ℕ → List ℕ → Fault → Report
report_of n r f = record { number = n; condition = f.condition; column = column_of r f.place }

abbrev pub reports_at : ℕ → List ℕ → List Fault → List Report
reports_at n r fs = map (λ (f : Fault). report_of n r f) fs

unfoldable pub stops : Outcome → Bool
stops Blank = false
stops Passed = false
stops (Dropped f) = false
stops Obeyed = false
stops (Stopped f) = true

-- what records come to, one after the other: the state and the store after them, whether one stopped the load, and of those that
-- were read the outcomes and the reports
pub record Run : Type 0 where
  pub state : State
  pub store : List ℕ
  pub stopped : Bool
  pub outcomes : List Outcome
  pub reports : List Report

abbrev pub none : State → List ℕ → Run
none s t = record { state = s; store = t; stopped = false; outcomes = []; reports = [] }

-- record r of number n, which stops the load
abbrev pub only : ℕ → List ℕ → Step → Run
only n r x =
    record {
      state = x.state;
      store = x.store;
      stopped = true;
      outcomes = x.outcome ∷ [];
      reports = reports_at n r (reported_of r x);
    }

-- record r of number n, and what comes after it
abbrev pub and_then : ℕ → List ℕ → Step → Run → Run
and_then n r x rest =
    record {
      state = rest.state;
      store = rest.store;
      stopped = rest.stopped;
      outcomes = x.outcome ∷ rest.outcomes;
      reports = reports_at n r (reported_of r x) ++ rest.reports;
    }

-- records after n others
unfoldable pub run_from : Desk → ℕ → State → List ℕ → List (List ℕ) → Run
run_from d n s t [] = none s t
run_from d n s t (r ∷ rs) =
    let x = record_step d s r t in
    let rest = run_from d (n + 1) x.state x.store rs in
    cond (stops x.outcome) (only (n + 1) r x) (and_then (n + 1) r x rest)

-- a stream's records from the first
unfoldable pub load_of : Desk → List ℕ → List ℕ → Run
load_of d t stream = run_from d 0 nothing_open t (records_of stream)

-- ---- what a run is told as

-- a stream that ends before ENDDATA, with no 0091 or 0099, gives 0100 under the number of records read, and blames no field
unfoldable pub all_reports : Run → List Report
all_reports r =
    cond r.stopped r.reports (r.reports ++ (record { number = length r.outcomes; condition = no_enddata; column = 0 } ∷ []))

-- each record read is in one tally; ENDDATA is obeyed, and what 0091 or 0099 stopped is dropped
pub data Class : Type 0 where
  blank : Class
  passed : Class
  dropped : Class
  obeyed : Class

unfoldable pub class_of : Outcome → Class
class_of Blank = blank
class_of Passed = passed
class_of (Dropped f) = dropped
class_of Obeyed = obeyed
class_of (Stopped f) = cond (eqb f.condition 0) obeyed dropped

abbrev pub class_number : Class → ℕ
class_number blank = 0
class_number passed = 1
class_number dropped = 2
class_number obeyed = 3

unfoldable pub eq_class : Class → Class → Bool
eq_class a b = eqb (class_number a) (class_number b)

unfoldable pub tally_of : Class → List Outcome → ℕ
tally_of k [] = 0
tally_of k (o ∷ os) = let n = tally_of k os in cond (eq_class k (class_of o)) (suc n) n

-- §4.2: the last error, else the last warning, else 0; each after what came before
unfoldable pub last_of : (ℕ → Bool) → ℕ → List Report → ℕ
last_of p c [] = c
last_of p c (r ∷ rs) = last_of p (cond (p r.condition) r.condition c) rs

unfoldable pub closing_of : List Report → ℕ
closing_of rs =
    let e = last_of is_error 0 rs in
    let w = last_of (λ c. not (is_error c)) 0 rs in
    cond (eqb e 0) w e

-- a report in 64 bits (C-11): the record number in the upper 18, then 14 of the condition, 7 of the column, and 25 that are zero
abbrev pub condition_span : ℕ
condition_span = 16_384

abbrev pub column_span : ℕ
column_span = 128

abbrev pub zero_span : ℕ
zero_span = 33_554_432

unfoldable pub report_word : Report → ℕ
report_word r = ((r.number * condition_span + r.condition) * column_span + r.column) * zero_span

-- and what a word says
abbrev pub number_in : ℕ → ℕ
number_in w = w / zero_span / column_span / condition_span

abbrev pub condition_in : ℕ → ℕ
condition_in w = w / zero_span / column_span % condition_span

abbrev pub column_in : ℕ → ℕ
column_in w = w / zero_span % column_span

-- the lent list afterwards: as many reports as it has room for, and the entries not stored to as they were
unfoldable pub stored_in : List ℕ → List Report → List ℕ
stored_in reps rs = put reps 0 (take (length reps) (map report_word rs))

-- what the run is told as
unfoldable pub totals_of : Run → Totals
totals_of r =
    record {
      reports = length (all_reports r);
      blank = tally_of blank r.outcomes;
      obeyed = tally_of obeyed r.outcomes;
      passed = tally_of passed r.outcomes;
      dropped = tally_of dropped r.outcomes;
      closing = closing_of (all_reports r);
    }
