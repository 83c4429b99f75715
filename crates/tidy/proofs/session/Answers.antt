-- `session` meets its contract: what `tidy_session::tidy` wrote ends within the array, and is the text of all that the reader had.
use Rattle.std.proofs.Common.{◌≡◌, length, sym}
use lib.Seq.{length-take-le}
use Rattle.tidy_session.proofs.Told.{ends_within}
use Rattle.tidy.proofs.Whole.{text_is, taken_text, session_told}
use Rattle.tidy.proofs.session.Goals as goal

pub slice_bounds-out-end : goal.slice_bounds-out-end
slice_bounds-out-end g c = ends_within _ _ c.tidy-end.ensures

pub slice_bounds-write_all-end : goal.slice_bounds-write_all-end
slice_bounds-write_all-end g c = sym (length-take-le _ _ (ends_within _ _ c.tidy-end.ensures))

pub returns : goal.returns
returns g c =
    let room : length c.read_full.new.buf ≡ 65536 = c.read_full.ensures.len in
    let all = taken_text _ _ room c.in_ok-n.ensures.in_bounds.0 _ _ c.in_ok-n.ensures.bytes c.in_ok-n.ensures.end in
    session_told _ _ _ (text_is _ _ c.tidy-end.ensures) _ _ c.write_all.ensures.bytes all
