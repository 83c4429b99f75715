-- `put_report` meets its contract: its four parts, one behind the other.
use mathlib.Core.Path.{sym}
use Rattle.text_room.proofs.Writes.{wrote_as}
use Rattle.text_room.proofs.Chain.{room_is, first_room, then_room, both}
use Rattle.tidy_printed.proofs.Parts.{report_parts}
use Rattle.tidy_printed.proofs.put_report.Goals as goal

pub put_fixed-column-requires : goal.put_fixed-column-requires
put_fixed-column-requires c = first_room _ (room_is (sym (report_parts _)) c.requires)

pub put_marked-next-requires : goal.put_marked-next-requires
put_marked-next-requires c = first_room _ (then_room _ (room_is (sym (report_parts _)) c.requires) c.put_fixed-column.ensures)

pub put_fixed-end-requires : goal.put_fixed-end-requires
put_fixed-end-requires c = first_room _ (then_room _ (then_room _ (room_is (sym (report_parts _)) c.requires) c.put_fixed-column.ensures) c.put_marked-next.ensures)

pub put_text-requires : goal.put_text-requires
put_text-requires c = then_room _ (then_room _ (then_room _ (room_is (sym (report_parts _)) c.requires) c.put_fixed-column.ensures) c.put_marked-next.ensures) c.put_fixed-end.ensures

pub returns : goal.returns
returns c = wrote_as _ _ (report_parts _) (both _ _ (room_is (sym (report_parts _)) c.requires) c.put_fixed-column.ensures (both _ _ (then_room _ (room_is (sym (report_parts _)) c.requires) c.put_fixed-column.ensures) c.put_marked-next.ensures (both _ _ (then_room _ (then_room _ (room_is (sym (report_parts _)) c.requires) c.put_fixed-column.ensures) c.put_marked-next.ensures) c.put_fixed-end.ensures c.put_text.ensures)))
