-- The counters of a load, and the lent list of reports: how one more record and one more report change them, and what they are after
-- those so far (paper 01, "Reports, tallies, closing number").
-- Assumes nothing.
use Rattle.std.specs.Prelude.{Bool, cond, not, ◌||◌, ◌≡◌, List, [], ◌∷◌, ◌++◌, map, ℕ, ◌+◌, ◌≤◌, ◌<◌, eqb, length, set}
use Rattle.text_records.specs.Received.{longest}
use Rattle.text_records.specs.Cleaning.{is_high, is_control, column_of, has}
use Rattle.load.specs.declared.Fault.{Fault}
use Rattle.load.specs.declared.Outcome.{Outcome}
use Rattle.load.specs.declared.Totals.{Totals}
use Rattle.load.specs.Condition.{is_error, ignored_high, ignored_control}
use Rattle.load.specs.Item.{blame_none}
use Rattle.load.specs.Step.{one_if, outcome_faults}
use Rattle.load.specs.Run.{Report, Class, blank, passed, dropped, obeyed, class_of, eq_class, tally_of, last_of, condition_span, report_word}
use Rattle.load.specs.Fits.{most_records, fault_in}
use Rattle.load_tell.specs.declared.Count.{Count}

-- ---- what the counters are after the outcomes and the reports so far
unfoldable pub count_of : List Outcome → List Report → Count
count_of os rs =
    record {
      records = length os;
      reports = length rs;
      blank = tally_of blank os;
      obeyed = tally_of obeyed os;
      passed = tally_of passed os;
      dropped = tally_of dropped os;
      error = last_of is_error 0 rs;
      warning = last_of (λ c. not (is_error c)) 0 rs;
    }

-- the closing number of the counters, and what they are told as
unfoldable pub closing_by : Count → ℕ
closing_by n = cond (eqb n.error 0) n.warning n.error

unfoldable pub totals_by : Count → Totals
totals_by n =
    record {
      reports = n.reports;
      blank = n.blank;
      obeyed = n.obeyed;
      passed = n.passed;
      dropped = n.dropped;
      closing = closing_by n;
    }

-- ---- one more record, in the tally of its class
abbrev pub with_one : Class → Outcome → ℕ → ℕ
with_one k o n = cond (eq_class k (class_of o)) (n + 1) n

unfoldable pub tallied : Count → Outcome → Count
tallied n o =
    record {
      records = n.records + 1;
      reports = n.reports;
      blank = with_one blank o n.blank;
      obeyed = with_one obeyed o n.obeyed;
      passed = with_one passed o n.passed;
      dropped = with_one dropped o n.dropped;
      error = n.error;
      warning = n.warning;
    }

-- ---- one more report, under the number of the record, and stored where there is room
unfoldable pub counted : Count → ℕ → Count
counted n c =
    record {
      records = n.records;
      reports = n.reports + 1;
      blank = n.blank;
      obeyed = n.obeyed;
      passed = n.passed;
      dropped = n.dropped;
      error = cond (is_error c) c n.error;
      warning = cond (not (is_error c)) c n.warning;
    }

-- the counters and the lent list
pub record Told : Type 0 where
  pub count : Count
  pub list : List ℕ

abbrev pub told : Count → List ℕ → Told
told n reps = record { count = n; list = reps }

-- a condition, and a column. A full list stores no more, but the count goes on: past its end `set` changes nothing
unfoldable pub told_as : Told → ℕ → ℕ → Told
told_as x c k =
    told (counted x.count c)
    (set x.list x.count.reports (report_word (record { number = x.count.records; condition = c; column = k })))

-- a condition that blames no field, if it is so
abbrev pub told_if : Told → Bool → ℕ → Told
told_if x b c = cond b (told_as x c 0) x

-- a fault of the record with the characters r
abbrev pub told_one : List ℕ → Told → Fault → Told
told_one r x f = told_as x f.condition (column_of r f.place)

unfoldable pub told_all : List ℕ → Told → List Fault → Told
told_all r x [] = x
told_all r x (f ∷ fs) = told_all r (told_one r x f) fs

-- ignored characters, 0701 first
abbrev pub ignored_by : Bool → Bool → List Fault
ignored_by high control = one_if high (blame_none ignored_high) ++ one_if control (blame_none ignored_control)

-- faults in words
unfoldable pub faults_as : List ℕ → List Fault
faults_as ws = map fault_in ws

-- the faults of a record, in the order in which they are reported
abbrev pub said_of : Bool → Bool → Outcome → List ℕ → List Fault
said_of high control o ws = ignored_by high control ++ (outcome_faults o ++ faults_as ws)

-- ---- what fits 64 bits: a record number has 18 bits, a condition 14, a column 7
-- far above what a stream of that many bytes can give
abbrev pub most_reports : ℕ
most_reports = 1048576

-- counters that can take a report
pub record Reportable (n : Count) (c k : ℕ) : Type 0 where
  pub numbered : n.records ≤ most_records
  pub room : n.reports < most_reports
  pub small : c < condition_span
  pub narrow : k ≤ longest

-- faults of a record with the characters r, each within its text
unfoldable pub Fit : List ℕ → List Fault → Type 0
Fit r [] = Unit {0}
Fit r (f ∷ fs) = (f.condition < condition_span) × (f.place ≤ length r) × Fit r fs

-- counters that can take these
pub record Tellable (n : Count) (r : List ℕ) (fs : List Fault) : Type 0 where
  pub numbered : n.records ≤ most_records
  pub room : n.reports + length fs ≤ most_reports
  pub short : length r ≤ longest
  pub fit : Fit r fs

-- whether a record has a character that is ignored
abbrev pub Marred : Bool → List ℕ → Type 0
Marred b r = b ≡ (has is_high r || has is_control r)

-- counters that can take one more record
pub record Countable (n : Count) : Type 0 where
  pub below : n.records < most_records
  pub blanks : n.blank ≤ n.records
  pub obeys : n.obeyed ≤ n.records
  pub passes : n.passed ≤ n.records
  pub drops : n.dropped ≤ n.records
