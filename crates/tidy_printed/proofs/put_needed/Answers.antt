-- `put_needed` meets its contract: its two parts, one behind the other.
use mathlib.Core.Path.{sym}
use Rattle.text_room.proofs.Writes.{wrote_as}
use Rattle.text_room.proofs.Chain.{room_is, first_room, then_room, both}
use Rattle.tidy_printed.proofs.Parts.{needed_parts}
use Rattle.tidy_printed.proofs.put_needed.Goals as goal

pub put_marked-end-requires : goal.put_marked-end-requires
put_marked-end-requires c = first_room _ (room_is (sym (needed_parts _)) c.requires)

pub put_text-requires : goal.put_text-requires
put_text-requires c = then_room _ (room_is (sym (needed_parts _)) c.requires) c.put_marked-end.ensures

pub returns : goal.returns
returns c = wrote_as _ _ (needed_parts _) (both _ _ (room_is (sym (needed_parts _)) c.requires) c.put_marked-end.ensures c.put_text.ensures)
