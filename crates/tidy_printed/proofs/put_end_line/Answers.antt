-- `put_end_line` meets its contract: its three parts, one behind the other.
use mathlib.Core.Path.{sym}
use Rattle.text_room.proofs.Writes.{wrote_as}
use Rattle.text_room.proofs.Chain.{room_is, first_room, then_room, both}
use Rattle.tidy_printed.proofs.Parts.{end_parts}
use Rattle.tidy_printed.proofs.put_end_line.Goals as goal

pub put_fixed-tallies-requires : goal.put_fixed-tallies-requires
put_fixed-tallies-requires c = first_room _ (room_is (sym (end_parts _)) c.requires)

pub put_tallies-end-requires : goal.put_tallies-end-requires
put_tallies-end-requires c = first_room _ (then_room _ (room_is (sym (end_parts _)) c.requires) c.put_fixed-tallies.ensures)

pub put_text-requires : goal.put_text-requires
put_text-requires c = then_room _ (then_room _ (room_is (sym (end_parts _)) c.requires) c.put_fixed-tallies.ensures) c.put_tallies-end.ensures

pub returns : goal.returns
returns c = wrote_as _ _ (end_parts _) (both _ _ (room_is (sym (end_parts _)) c.requires) c.put_fixed-tallies.ensures (both _ _ (then_room _ (room_is (sym (end_parts _)) c.requires) c.put_fixed-tallies.ensures) c.put_tallies-end.ensures c.put_text.ensures))
