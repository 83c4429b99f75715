-- `put_tallies` meets its contract: the four tallies, one behind the other.
use mathlib.Core.Path.{sym}
use Rattle.text_room.proofs.Writes.{wrote_as}
use Rattle.text_room.proofs.Chain.{room_is, first_room, then_room, both}
use Rattle.tidy_printed.proofs.Parts.{tallies_parts}
use Rattle.tidy_printed.proofs.put_tallies.Goals as goal

pub put_marked-obeyed-requires : goal.put_marked-obeyed-requires
put_marked-obeyed-requires c = first_room _ (room_is (sym (tallies_parts _)) c.requires)

pub put_marked-passed-requires : goal.put_marked-passed-requires
put_marked-passed-requires c = first_room _ (then_room _ (room_is (sym (tallies_parts _)) c.requires) c.put_marked-obeyed.ensures)

pub put_marked-dropped-requires : goal.put_marked-dropped-requires
put_marked-dropped-requires c = first_room _ (then_room _ (then_room _ (room_is (sym (tallies_parts _)) c.requires) c.put_marked-obeyed.ensures) c.put_marked-passed.ensures)

pub put_marked-requires : goal.put_marked-requires
put_marked-requires c = then_room _ (then_room _ (then_room _ (room_is (sym (tallies_parts _)) c.requires) c.put_marked-obeyed.ensures) c.put_marked-passed.ensures) c.put_marked-dropped.ensures

pub returns : goal.returns
returns c = wrote_as _ _ (tallies_parts _) (both _ _ (room_is (sym (tallies_parts _)) c.requires) c.put_marked-obeyed.ensures (both _ _ (then_room _ (room_is (sym (tallies_parts _)) c.requires) c.put_marked-obeyed.ensures) c.put_marked-passed.ensures (both _ _ (then_room _ (then_room _ (room_is (sym (tallies_parts _)) c.requires) c.put_marked-obeyed.ensures) c.put_marked-passed.ensures) c.put_marked-dropped.ensures c.put_marked.ensures)))
