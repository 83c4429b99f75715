-- All that the program `tidy` prints, of the bytes that it reads (paper 01, "The written stream", the program `tidy`). The lines ahead of the
-- stream are in crate `tidy_printed`, the stream in crate `save`.
-- Assumes nothing.
use Rattle.std.specs.Prelude.{cond, List, ◌++◌, ◌≡◌, ℕ, ltb, length, replicate}
use Rattle.cells.specs.Text.{bytes}
use Rattle.store_desk.specs.Size.{house, store_length}
use Rattle.load.specs.Run.{Run, load_of, totals_of, stored_in, all_reports}
use Rattle.save.specs.Lines.{stream_of}
use Rattle.text_room.specs.Wrote.{wrote, wrote_at}
use Rattle.tidy_printed.specs.Text.{told_text, needed_text}

-- "reads standard input, at most 65,535 bytes"
abbrev pub most_input : ℕ
most_input = 65535

-- "If the written stream is longer than 65,535 bytes"
abbrev pub most_shown : ℕ
most_shown = 65535

-- "into an empty house small desk"
abbrev pub empty_store : List ℕ
empty_store = replicate (store_length house) 0

unfoldable pub read_in : List ℕ → Run
read_in stream = load_of house empty_store stream

-- "`(record) condition` per stored report (its list holds 1,024)", the column after a colon (paper 02, C-11)
abbrev pub report_list : List ℕ
report_list = replicate 1024 0

-- "and the written stream. .. If the written stream is longer than 65,535 bytes, a line as `R6 70000`, with the length needed, stands in its
-- place": of a house small desk's store
unfoldable pub shown_text : List ℕ → List ℕ
shown_text s = let w = stream_of house s in cond (ltb most_shown (length w)) (needed_text (length w)) w

-- "It prints `(record) condition` per stored report, an END line (closing number, tallies) and the written stream": of a load
unfoldable pub answer_text : Run → List ℕ
answer_text x = told_text (stored_in report_list (all_reports x)) (totals_of x) ++ shown_text x.store

-- "Too much input prints only `input too long`"
unfoldable pub tidy_text : List ℕ → List ℕ
tidy_text input = let r = answer_text (read_in input) in cond (ltb most_input (length input)) (bytes "input too long\n") r

-- the promise of `tidy`, of its input and output, of the length that it answers and of the output afterwards: the text stands at the output's
-- start, the length is the text's, and the bytes past it are as they were
abbrev pub TidyPromise : List ℕ → List ℕ → ℕ → List ℕ → Type 0
TidyPromise input out r o = wrote r o ≡ wrote_at out 0 (tidy_text input)
