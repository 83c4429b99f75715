-- `put_told` meets its contract: the stored reports, and the END line behind them.
use mathlib.Core.Path.{sym}
use Rattle.text_room.proofs.Writes.{wrote_as}
use Rattle.text_room.proofs.Chain.{room_is, first_room, then_room, both}
use Rattle.tidy_printed.proofs.Parts.{stored_parts, length_least}
use Rattle.tidy_printed.proofs.put_told.Goals as goal

pub slice_bounds-put_reports-end : goal.slice_bounds-put_reports-end
slice_bounds-put_reports-end c = sym (length_least _ _ c.min-n.ensures)

pub put_reports-end-requires : goal.put_reports-end-requires
put_reports-end-requires c = first_room _ (room_is (sym (stored_parts _ _ c.min-n.ensures)) c.requires)

pub put_end_line-requires : goal.put_end_line-requires
put_end_line-requires c = then_room _ (room_is (sym (stored_parts _ _ c.min-n.ensures)) c.requires) c.put_reports-end.ensures

pub returns : goal.returns
returns c = wrote_as _ _ (stored_parts _ _ c.min-n.ensures) (both _ _ (room_is (sym (stored_parts _ _ c.min-n.ensures)) c.requires) c.put_reports-end.ensures c.put_end_line.ensures)
