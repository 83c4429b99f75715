-- `put_at_level` meets its contract: one text behind the other.
use Rattle.text_room.proofs.Writes.{wrote_as}
use mathlib.Core.Path.{sym}
use Rattle.save_lines.proofs.Parts.{at_level_is}
use Rattle.text_room.proofs.Chain.{room_is, first_room, then_room, both}
use Rattle.save_lines.proofs.put_at_level.Goals as goal

pub put_text-digits-requires : goal.put_text-digits-requires
put_text-digits-requires c = first_room _ (room_is (sym (at_level_is _)) c.requires)

pub put_level-requires : goal.put_level-requires
put_level-requires c = then_room _ (room_is (sym (at_level_is _)) c.requires) c.put_text-digits.ensures

pub returns : goal.returns
returns c = wrote_as _ _ (at_level_is _) (both _ _ (room_is (sym (at_level_is _)) c.requires) c.put_text-digits.ensures c.put_level.ensures)
