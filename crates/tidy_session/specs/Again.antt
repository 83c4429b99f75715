-- What `tidy` printed as a stream, given to `tidy` again (paper 01, "The written stream").
-- Assumes nothing.
use Rattle.std.specs.Prelude.{◌≡◌, List, ◌++◌, ℕ, ◌≤◌, length}
use Rattle.store_desk.specs.Size.{house}
use Rattle.text_records.specs.Stream.{records_of}
use Rattle.load.specs.Run.{totals_of, stored_in, all_reports}
use Rattle.save.specs.Lines.{stream_of}
use Rattle.theorem_same_show.specs.Show.{all_obeyed}
use Rattle.tidy_printed.specs.Text.{told_text, end_text}
use Rattle.tidy_session.specs.Session.{most_input, most_shown, read_in, report_list, tidy_text}

-- the written stream of what is kept after an input
unfoldable pub kept_stream : List ℕ → List ℕ
kept_stream input = stream_of house (read_in input).store

-- an input gives its reports, its END line and its stream; and that stream gives `END 0000 blank 0 obeyed N passed 0 dropped 0`, where N is the
-- number of its records, and itself
pub record PrintsAgain (input : List ℕ) : Type 0 where
  pub first : tidy_text input ≡ told_text (stored_in report_list (all_reports (read_in input))) (totals_of (read_in input)) ++ kept_stream input
  pub again : tidy_text (kept_stream input) ≡ end_text (all_obeyed (length (records_of (kept_stream input)))) ++ kept_stream input

-- for every input that is read, where the written stream is printed
abbrev pub Again : Type 0
Again = (input : List ℕ) → length input ≤ most_input → length (kept_stream input) ≤ most_shown → PrintsAgain input
