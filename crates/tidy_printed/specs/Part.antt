-- The parts of lines that the code writes by themselves.
-- Assumes nothing.
use Rattle.std.specs.Prelude.{List, ◌++◌, ℕ}
use Rattle.cells.specs.Text.{bytes}
use Rattle.value_written.specs.Text.{digits_text, marked_text}
use Rattle.load.specs.declared.Totals.{Totals}

-- so many digits of a number behind a mark
unfoldable pub fixed_text : List ℕ → ℕ → ℕ → List ℕ
fixed_text mark count n = mark ++ digits_text 10 count n

-- the four tallies of the END line
unfoldable pub tallies_text : Totals → List ℕ
tallies_text t =
    marked_text (bytes " blank ") t.blank
    ++ (marked_text (bytes " obeyed ") t.obeyed ++ (marked_text (bytes " passed ") t.passed ++ marked_text (bytes " dropped ") t.dropped))
