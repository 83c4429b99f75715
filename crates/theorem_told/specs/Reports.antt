-- The reports of a load: the closing number that they come to (§4.2), the records that they name, and what a word in the lent list says
-- (paper 01, "Reports, tallies, closing number").
-- Assumes nothing.
use Rattle.std.specs.Prelude.{◌≡◌, true, false, List, [], ℕ, suc, ◌*◌, ◌≤◌, ◌<◌, ◌%◌, length, get_or}
use Rattle.store_desk.specs.declared.Desk.{Desk}
use Rattle.store_desk.specs.Size.{InRange}
use Rattle.load.specs.Condition.{is_error}
use Rattle.load.specs.Run.{Run, Report, condition_span, column_span, zero_span, all_reports, report_word, number_in, condition_in, column_in, totals_of}
use Rattle.theorem_told.specs.Answer.{no_report}

-- report k, counted from 0
abbrev pub report_at : List Report → ℕ → Report
report_at rs k = get_or rs k no_report

-- ---- closing number: the last error, else the last warning, else 0

pub record LastError (rs : List Report) (k : ℕ) : Type 0 where
  pub given : k < length rs
  pub error : is_error (report_at rs k).condition ≡ true
  pub later : (j : ℕ) → k < j → j < length rs → is_error (report_at rs j).condition ≡ false

-- every report is a warning
abbrev pub NoError : List Report → Type 0
NoError rs = (j : ℕ) → j < length rs → is_error (report_at rs j).condition ≡ false

-- without an error the last warning is the last report
pub record ClosingSaid (rs : List Report) (closing : ℕ) : Type 0 where
  pub error : (k : ℕ) → LastError rs k → closing ≡ (report_at rs k).condition
  pub warning : (k : ℕ) → NoError rs → length rs ≡ suc k → closing ≡ (report_at rs k).condition
  pub none : rs ≡ [] → closing ≡ 0

-- ---- a report is 64 bits: record number 18 (from 1), condition 14, column 7, and 25 zero bits (C-11)

abbrev pub number_span : ℕ
number_span = 262_144

pub record Fits (r : Report) : Type 0 where
  pub number : r.number < number_span
  pub condition : r.condition < condition_span
  pub column : r.column < column_span

-- what a report's word says of it, and that it says it of no other
pub record WordSaid (r : Report) : Type 0 where
  pub short : report_word r < number_span * condition_span * column_span * zero_span
  pub zeros : report_word r % zero_span ≡ 0
  pub number : number_in (report_word r) ≡ r.number
  pub condition : condition_in (report_word r) ≡ r.condition
  pub column : column_in (report_word r) ≡ r.column
  pub only : (q : Report) → Fits q → report_word q ≡ report_word r → q ≡ r

-- ---- of a load

-- the reports rs of a stream of which n records were read. They come in the order of the records, each under the number of a record that
-- was read, or 0 where none was; on a desk in range each condition is above 0. Of a stream that is not too long each report fits, so that
-- its word says it
pub record ReportsSaid (d : Desk) (stream : List ℕ) (n : ℕ) (rs : List Report) : Type 0 where
  pub order : (i j : ℕ) → i ≤ j → j < length rs → (report_at rs i).number ≤ (report_at rs j).number
  pub read : (k : ℕ) → k < length rs → (report_at rs k).number ≤ n
  pub none : (k : ℕ) → k < length rs → (report_at rs k).number ≡ 0 → n ≡ 0
  pub condition : InRange d → (k : ℕ) → k < length rs → 0 < (report_at rs k).condition
  pub fits : length stream < number_span → (k : ℕ) → k < length rs → Fits (report_at rs k)
  pub words : length stream < number_span → (k : ℕ) → k < length rs → WordSaid (report_at rs k)

-- and the closing number that they come to
abbrev pub Reported : Desk → List ℕ → Run → Type 0
Reported d stream x = ReportsSaid d stream (length x.outcomes) (all_reports x) × ClosingSaid (all_reports x) (totals_of x).closing
