-- `put_marked` meets its contract: one text behind the other.
use Rattle.text_room.proofs.Writes.{wrote_as}
use mathlib.Core.Path.{sym}
use Rattle.value_written.proofs.Texts.{marked_pieces}
use Rattle.text_room.proofs.Chain.{room_is, first_room, then_room, both}
use Rattle.value_written.proofs.put_marked.Goals as goal

pub put_text-digits-requires : goal.put_text-digits-requires
put_text-digits-requires c = first_room _ (room_is (sym (marked_pieces _ _)) c.requires)

pub put_integer-requires : goal.put_integer-requires
put_integer-requires c = then_room _ (room_is (sym (marked_pieces _ _)) c.requires) c.put_text-digits.ensures

pub returns : goal.returns
returns c = wrote_as _ _ (marked_pieces _ _) (both _ _ (room_is (sym (marked_pieces _ _)) c.requires) c.put_text-digits.ensures c.put_integer.ensures)
