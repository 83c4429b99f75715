-- The columns of the reports of a load with translation: as in a normal load, and 0 for a lost link (paper 02, C-11, C-13).
-- Assumes nothing.
use Rattle.std.specs.Prelude.{◌≡◌, List, ℕ, ◌≤◌, ◌<◌, length}
use Rattle.store_desk.specs.declared.Desk.{Desk}
use Rattle.store_desk.specs.Size.{InRange}
use Rattle.text_records.specs.Received.{longest}
use Rattle.load.specs.Run.{all_reports}
use Rattle.load.specs.Translated.{lost_link, translated_of}
use Rattle.theorem_told.specs.Reports.{report_at}
use Rattle.theorem_told.specs.Columns.{OfRecord}
use Rattle.theorem_translated.specs.Links.{read_of}

-- each report that was made while records were read is of one of them and blames a field of it; each behind those is of a lost link; no column is
-- above 80, that of 0100 neither
pub record ColumnsSaid (d : Desk) (t stream : List ℕ) : Type 0 where
  pub records : InRange d → (k : ℕ) → k < length (read_of d t stream).reports
      → OfRecord stream (length (translated_of d t stream).outcomes) (report_at (translated_of d t stream).reports k)
  pub lost : (k : ℕ) → length (read_of d t stream).reports ≤ k → k < length (translated_of d t stream).reports
      → report_at (translated_of d t stream).reports k ≡ lost_link (length (translated_of d t stream).outcomes)
  pub most : (k : ℕ) → k < length (all_reports (translated_of d t stream)) → (report_at (all_reports (translated_of d t stream)) k).column ≤ longest
