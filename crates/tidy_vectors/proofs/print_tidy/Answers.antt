-- `print_tidy` is safe: what `tidy_session::tidy` wrote ends within the array.
use Rattle.std.proofs.Common.{sym}
use lib.Seq.{length-take-le}
use Rattle.tidy_session.proofs.Told.{ends_within}
use Rattle.tidy_vectors.proofs.print_tidy.Goals as goal

pub slice_bounds-out-end : goal.slice_bounds-out-end
slice_bounds-out-end g c = ends_within _ _ c.tidy-end.ensures

pub slice_bounds-write_all-end : goal.slice_bounds-write_all-end
slice_bounds-write_all-end g c = sym (length-take-le _ _ (ends_within _ _ c.tidy-end.ensures))
