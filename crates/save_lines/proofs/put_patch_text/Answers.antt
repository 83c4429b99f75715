-- `put_patch_text` meets its contract: its four parts, one behind the other.
use Rattle.text_room.proofs.Writes.{wrote_as}
use mathlib.Core.Path.{sym}
use Rattle.save_lines.proofs.Parts.{patch_parts}
use Rattle.text_room.proofs.Chain.{room_is, first_room, then_room, both}
use Rattle.save_lines.proofs.put_patch_text.Goals as goal

pub put_marked-channel-requires : goal.put_marked-channel-requires
put_marked-channel-requires c = first_room _ (room_is (sym (patch_parts _ _ _)) c.requires.room)

pub put_marked-number-requires : goal.put_marked-number-requires
put_marked-number-requires c = first_room _ (then_room _ (room_is (sym (patch_parts _ _ _)) c.requires.room) c.put_marked-channel.ensures)

pub put_marked-mark-requires : goal.put_marked-mark-requires
put_marked-mark-requires c = first_room _ (then_room _ (then_room _ (room_is (sym (patch_parts _ _ _)) c.requires.room) c.put_marked-channel.ensures) c.put_marked-number.ensures)

pub put_at_level-requires : goal.put_at_level-requires
put_at_level-requires c = then_room _ (then_room _ (then_room _ (room_is (sym (patch_parts _ _ _)) c.requires.room) c.put_marked-channel.ensures) c.put_marked-number.ensures) c.put_marked-mark.ensures

pub returns : goal.returns
returns c = wrote_as _ _ (patch_parts _ _ _) (both _ _ (room_is (sym (patch_parts _ _ _)) c.requires.room) c.put_marked-channel.ensures (both _ _ (then_room _ (room_is (sym (patch_parts _ _ _)) c.requires.room) c.put_marked-channel.ensures) c.put_marked-number.ensures (both _ _ (then_room _ (then_room _ (room_is (sym (patch_parts _ _ _)) c.requires.room) c.put_marked-channel.ensures) c.put_marked-number.ensures) c.put_marked-mark.ensures c.put_at_level.ensures)))
