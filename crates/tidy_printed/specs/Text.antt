-- The lines that `tidy` prints ahead of the written stream, or in its place (paper 01, "The written stream", the program `tidy`; paper 02, C-11). Each
-- ends in LF.
-- Assumes nothing.
use Rattle.std.specs.Prelude.{List, [], ◌∷◌, ◌++◌, ℕ, take}
use Rattle.cells.specs.Text.{bytes}
use Rattle.value_written.specs.Text.{digits_text, integer_text}
use Rattle.load.specs.declared.Totals.{Totals}
use Rattle.load.specs.Run.{number_in, condition_in, column_in}

abbrev pub lf : List ℕ
lf = bytes "\n"

-- `(00006:14) 0172`: the record, the column and the condition of a report's word
unfoldable pub report_text : ℕ → List ℕ
report_text w =
    bytes "("
    ++ (digits_text 10 5 (number_in w)
    ++ (bytes ":" ++ (integer_text (column_in w) ++ (bytes ") " ++ (digits_text 10 4 (condition_in w) ++ lf)))))

-- a line for each report
unfoldable pub reports_text : List ℕ → List ℕ
reports_text [] = []
reports_text (w ∷ ws) = let r = reports_text ws in report_text w ++ r

-- `END 0043 blank 1 obeyed 6 passed 1 dropped 1`
unfoldable pub end_text : Totals → List ℕ
end_text t =
    bytes "END "
    ++ (digits_text 10 4 t.closing
    ++ (bytes " blank "
    ++ (integer_text t.blank
    ++ (bytes " obeyed "
    ++ (integer_text t.obeyed
    ++ (bytes " passed " ++ (integer_text t.passed ++ (bytes " dropped " ++ (integer_text t.dropped ++ lf)))))))))

-- what a load is told as: the stored reports, of a list that may be shorter than the count of reports, and the END line
unfoldable pub told_text : List ℕ → Totals → List ℕ
told_text reports t = reports_text (take t.reports reports) ++ end_text t

-- `R6 70000`: the length that the written stream needs
unfoldable pub needed_text : ℕ → List ℕ
needed_text n = bytes "R6 " ++ (integer_text n ++ lf)
