-- `put_number` meets its contract: one text behind the other.
use Rattle.text_room.proofs.Chain.{room_is, first_room, then_room, both}
use Rattle.text_room.proofs.Writes.{wrote_as}
use Rattle.value_written.proofs.Texts.{number_pieces}
use mathlib.Core.Path.{sym}
use Rattle.value_written.proofs.put_number.Goals as goal

pub put_integer-point-requires : goal.put_integer-point-requires
put_integer-point-requires c = first_room _ (room_is (sym (number_pieces _ _)) c.requires)

pub put_fraction-requires : goal.put_fraction-requires
put_fraction-requires c = then_room _ (room_is (sym (number_pieces _ _)) c.requires) c.put_integer-point.ensures

pub returns : goal.returns
returns c = wrote_as _ _ (number_pieces _ _) (both _ _ (room_is (sym (number_pieces _ _)) c.requires) c.put_integer-point.ensures c.put_fraction.ensures)
