-- `put_time` meets its contract: one text behind the other.
use Rattle.text_room.proofs.Chain.{room_is, first_room, then_room, both}
use Rattle.text_room.proofs.Writes.{wrote_as}
use Rattle.value_written.proofs.Texts.{time_pieces}
use mathlib.Core.Path.{sym}
use Rattle.value_written.proofs.put_time.Goals as goal

pub put_clock-point-requires : goal.put_clock-point-requires
put_clock-point-requires c = first_room _ (room_is (sym (time_pieces _)) c.requires)

pub put_fraction-requires : goal.put_fraction-requires
put_fraction-requires c = then_room _ (room_is (sym (time_pieces _)) c.requires) c.put_clock-point.ensures

pub returns : goal.returns
returns c = wrote_as _ _ (time_pieces _) (both _ _ (room_is (sym (time_pieces _)) c.requires) c.put_clock-point.ensures c.put_fraction.ensures)
