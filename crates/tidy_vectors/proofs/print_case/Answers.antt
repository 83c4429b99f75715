-- `print_case` meets its contract: the header line and the input lie within the file.
use Rattle.std.proofs.Common.{arith}
use Rattle.tidy_vectors.proofs.Cases.{lies}
use Rattle.tidy_vectors.proofs.print_case.Goals as goal

pub slice_bounds-print_header-count : goal.slice_bounds-print_header-count
slice_bounds-print_header-count g c = let l = lies c.args.input.now c.args.at (omega arith) c.case_at-c.ensures in omega arith

pub slice_bounds-print_header-start : goal.slice_bounds-print_header-start
slice_bounds-print_header-start g c = let l = lies c.args.input.now c.args.at (omega arith) c.case_at-c.ensures in omega arith

pub slice_bounds-print_header-end : goal.slice_bounds-print_header-end
slice_bounds-print_header-end g c = let l = lies c.args.input.now c.args.at (omega arith) c.case_at-c.ensures in omega arith

pub slice_bounds-print_tidy-count : goal.slice_bounds-print_tidy-count
slice_bounds-print_tidy-count g c = let l = lies c.args.input.now c.args.at (omega arith) c.case_at-c.ensures in omega arith

pub slice_bounds-print_tidy-start : goal.slice_bounds-print_tidy-start
slice_bounds-print_tidy-start g c = let l = lies c.args.input.now c.args.at (omega arith) c.case_at-c.ensures in omega arith

pub slice_bounds-print_tidy-end : goal.slice_bounds-print_tidy-end
slice_bounds-print_tidy-end g c = let l = lies c.args.input.now c.args.at (omega arith) c.case_at-c.ensures in omega arith
