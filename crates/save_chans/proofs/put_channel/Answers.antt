-- `put_channel` meets its contract: one text behind the other.
use Rattle.text_room.proofs.Writes.{wrote_as}
use mathlib.Core.Path.{sym}
use Rattle.save_chans.proofs.Channels.{lit_level, channel_some}
use Rattle.text_room.proofs.Chain.{room_is, first_room, then_room, both}
use Rattle.save_chans.proofs.put_channel.Goals as goal

pub put_text-pair-requires : goal.put_text-pair-requires
put_text-pair-requires c = first_room _ (room_is (sym (channel_some _ _ _ c.lead.ensures (lit_level c.requires.level_nonzero))) c.requires.room)

pub put_pair-requires : goal.put_pair-requires
put_pair-requires c = then_room _ (room_is (sym (channel_some _ _ _ c.lead.ensures (lit_level c.requires.level_nonzero))) c.requires.room) c.put_text-pair.ensures

pub returns : goal.returns
returns c = wrote_as _ _ (channel_some _ _ _ c.lead.ensures (lit_level c.requires.level_nonzero)) (both _ _ (room_is (sym (channel_some _ _ _ c.lead.ensures (lit_level c.requires.level_nonzero))) c.requires.room) c.put_text-pair.ensures c.put_pair.ensures)
