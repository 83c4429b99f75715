-- `put_pair` meets its contract: one text behind the other.
use Rattle.text_room.proofs.Writes.{wrote_as}
use mathlib.Core.Path.{sym}
use Rattle.save_chans.proofs.Channels.{pair_parts}
use Rattle.text_room.proofs.Chain.{room_is, first_room, then_room, both}
use Rattle.save_chans.proofs.put_pair.Goals as goal

pub put_marked-mark-requires : goal.put_marked-mark-requires
put_marked-mark-requires c = first_room _ (room_is (sym (pair_parts _ _)) c.requires)

pub put_at_level-requires : goal.put_at_level-requires
put_at_level-requires c = then_room _ (room_is (sym (pair_parts _ _)) c.requires) c.put_marked-mark.ensures

pub returns : goal.returns
returns c = wrote_as _ _ (pair_parts _ _) (both _ _ (room_is (sym (pair_parts _ _)) c.requires) c.put_marked-mark.ensures c.put_at_level.ensures)
