-- `case_at` meets its contract: the line ends within the file, and the input behind it is what there is of its length.
use Rattle.std.proofs.Common.{arith}
use Rattle.text_records.proofs.Stream.{end_within}
use Rattle.tidy_vectors.proofs.Cases.{case_is}
use Rattle.tidy_vectors.proofs.case_at.Goals as goal

pub overflow_add-line : goal.overflow_add-line
overflow_add-line c = omega (arith, end_within c.args.input.now c.args.at (omega arith))

pub slice_bounds-length_in-end : goal.slice_bounds-length_in-end
slice_bounds-length_in-end c = omega (arith, end_within c.args.input.now c.args.at (omega arith))

pub returns : goal.returns
returns c = case_is _ _ c.record_end-line.ensures c.min-body.ensures c.length_in.ensures c.min-count.ensures
