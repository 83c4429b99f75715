-- `put_patch` meets its contract: nothing for an unpatched dimmer, else the record and its end.
use Rattle.text_room.proofs.Writes.{wrote_as}
use mathlib.Core.Path.{sym}
use Rattle.text_room.proofs.Chain.{wrote_nothing}
use Rattle.save_lines.proofs.Parts.{patch_none, patch_some}
use Rattle.text_room.proofs.Chain.{room_is, first_room, then_room, both}
use Rattle.save_lines.proofs.put_patch.Goals as goal

pub returns-then-p-eq0 : goal.returns-then-p-eq0
returns-then-p-eq0 c = wrote_nothing _ _ (patch_none _ _ _ c.if-p-eq0.true)

pub put_patch_text-end-requires : goal.put_patch_text-end-requires
put_patch_text-end-requires c = record { room = first_room _ (room_is (sym (patch_some _ _ _ c.if-p-eq0.false)) c.requires.room); level_bound = c.requires.level_bound }

pub put_end-requires : goal.put_end-requires
put_end-requires c = then_room _ (room_is (sym (patch_some _ _ _ c.if-p-eq0.false)) c.requires.room) c.put_patch_text-end.ensures

pub returns : goal.returns
returns c = wrote_as _ _ (patch_some _ _ _ c.if-p-eq0.false) (both _ _ (room_is (sym (patch_some _ _ _ c.if-p-eq0.false)) c.requires.room) c.put_patch_text-end.ensures c.put_end.ensures)
