-- `put_head` meets its contract: the four lines, one behind the other.
use Rattle.text_room.proofs.Writes.{wrote_as}
use mathlib.Core.Path.{sym}
use Rattle.save_lines.proofs.Parts.{head_parts}
use Rattle.text_room.proofs.Chain.{room_is, first_room, then_room, both}
use Rattle.save_lines.proofs.put_head.Goals as goal

pub put_time_line-down-requires : goal.put_time_line-down-requires
put_time_line-down-requires c = first_room _ (room_is (sym (head_parts _)) c.requires)

pub put_time_line-followon-requires : goal.put_time_line-followon-requires
put_time_line-followon-requires c = first_room _ (then_room _ (room_is (sym (head_parts _)) c.requires) c.put_time_line-down.ensures)

pub put_time_line-link-requires : goal.put_time_line-link-requires
put_time_line-link-requires c = first_room _ (then_room _ (then_room _ (room_is (sym (head_parts _)) c.requires) c.put_time_line-down.ensures) c.put_time_line-followon.ensures)

pub put_link-requires : goal.put_link-requires
put_link-requires c = then_room _ (then_room _ (then_room _ (room_is (sym (head_parts _)) c.requires) c.put_time_line-down.ensures) c.put_time_line-followon.ensures) c.put_time_line-link.ensures

pub returns : goal.returns
returns c = wrote_as _ _ (head_parts _) (both _ _ (room_is (sym (head_parts _)) c.requires) c.put_time_line-down.ensures (both _ _ (then_room _ (room_is (sym (head_parts _)) c.requires) c.put_time_line-down.ensures) c.put_time_line-followon.ensures (both _ _ (then_room _ (then_room _ (room_is (sym (head_parts _)) c.requires) c.put_time_line-down.ensures) c.put_time_line-followon.ensures) c.put_time_line-link.ensures c.put_link.ensures)))
