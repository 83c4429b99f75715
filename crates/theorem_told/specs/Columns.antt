-- The column of a report (paper 02, C-11): that of the blamed field's first character in the record as received, counted from 1. For 0051, 0052,
-- 0151 and 0152 it is the keyword; 0 for a missing field and for 0021, 0022, 0091, 0100, 0701 and 0702. Fields are counted from 0.
-- Assumes nothing.
use Rattle.std.specs.Prelude.{◌≡◌, true, false, ◌||◌, List, [], ℕ, ◌+◌, ◌-◌, ◌≤◌, ◌<◌, length, get_or, drop}
use Rattle.store_desk.specs.declared.Desk.{Desk}
use Rattle.store_desk.specs.Size.{InRange}
use Rattle.text_records.specs.Stream.{records_of}
use Rattle.text_records.specs.Received.{longest}
use Rattle.text_records.specs.Cleaning.{is_high, is_control, kept_of}
use Rattle.text_fields.specs.Words.{Word, missing, fields_of}
use Rattle.load.specs.Condition.{blames_keyword, blames_none}
use Rattle.load.specs.Run.{Report, load_of, all_reports}
use Rattle.theorem_told.specs.Reports.{report_at}

-- in that column of record r stands the first character of its field w: one that is kept, and from which on the text is that of w and of what
-- follows it
pub record FirstThere (r : List ℕ) (w : Word) (column : ℕ) : Type 0 where
  pub some : 0 < column
  pub within : column ≤ length r
  pub first : get_or r (column - 1) 0 ≡ get_or w.chars 0 0
  pub kept : (is_high (get_or r (column - 1) 0) || is_control (get_or r (column - 1) 0)) ≡ false
  pub text : kept_of (drop (column - 1) r) ≡ drop (w.place - 1) (kept_of r)

-- of a report of record r: the field that is blamed, which may be missing, and its column
pub record ColumnSaid (r : List ℕ) (q : Report) : Type 0 where
  pub field : ℕ
  pub there : field < length (fields_of r) → FirstThere r (get_or (fields_of r) field missing) q.column
  pub lacking : length (fields_of r) ≤ field → q.column ≡ 0
  pub keyword : blames_keyword q.condition ≡ true → field ≡ 0
  pub nothing : blames_none q.condition ≡ true → q.column ≡ 0

-- a report of one of n records that were read, in its order from 0
pub record OfRecord (stream : List ℕ) (n : ℕ) (q : Report) : Type 0 where
  pub index : ℕ
  pub read : index < n
  pub number : q.number ≡ index + 1
  pub column : ColumnSaid (get_or (records_of stream) index []) q

-- of a load: each report, but for 0100 at the end, is of a record that was read and blames a field of it; no column is above 80
pub record ColumnsSaid (d : Desk) (t stream : List ℕ) : Type 0 where
  pub records : InRange d → (k : ℕ) → k < length (load_of d t stream).reports
      → OfRecord stream (length (load_of d t stream).outcomes) (report_at (load_of d t stream).reports k)
  pub most : (k : ℕ) → k < length (all_reports (load_of d t stream)) → (report_at (all_reports (load_of d t stream)) k).column ≤ longest
