-- `clean` meets its contract: the kept characters stand in front, whether they had to move or not.
use Rattle.text_records.proofs.Cleaning.{mark_within, front_length, front_unmarked, cleaned_squeezed, cleaned_same}
use Rattle.text_records.proofs.clean.Goals as goal

pub slice_bounds-squeeze-end : goal.slice_bounds-squeeze-end
slice_bounds-squeeze-end c = mark_within _ c.mark_in-end.ensures

pub slice_bounds-squeeze-end-then-control : goal.slice_bounds-squeeze-end-then-control
slice_bounds-squeeze-end-then-control c = front_length _ c.mark_in-end.ensures

pub squeeze-count-requires : goal.squeeze-count-requires
squeeze-count-requires c = front_unmarked _ c.mark_in-end.ensures

pub returns-then-control : goal.returns-then-control
returns-then-control c = cleaned_squeezed _ c.mark_in-end.ensures c.seen_in-high.ensures c.squeeze-count.ensures.value c.squeeze-count.ensures.s_after

pub returns-else-control : goal.returns-else-control
returns-else-control c = cleaned_same _ c.mark_in-end.ensures c.seen_in-high.ensures c.if-control.false.0 c.if-control.false.1
