-- `put_link` meets its contract: nothing where there is no link, else its parts, one behind the other.
use Rattle.value_written.specs.Text.{number_text}
use Rattle.text_room.proofs.Writes.{wrote_as}
use mathlib.Core.Path.{sym}
use Rattle.text_room.proofs.Chain.{wrote_nothing}
use Rattle.save_lines.proofs.Parts.{link_none, link_some}
use Rattle.text_room.proofs.Chain.{room_is, first_room, then_room, both}
use Rattle.save_lines.proofs.put_link.Goals as goal

pub returns-then-h-eq0 : goal.returns-then-h-eq0
returns-then-h-eq0 c = wrote_nothing _ _ (link_none _ c.if-h-eq0.true)

pub put_text-digits-requires : goal.put_text-digits-requires
put_text-digits-requires c = first_room _ (room_is (sym (link_some _ c.if-h-eq0.false)) c.requires)

pub put_number-end-requires : goal.put_number-end-requires
put_number-end-requires c = first_room {xs = number_text c.args.h.link_whole c.args.h.link_fraction} _ (then_room _ (room_is (sym (link_some _ c.if-h-eq0.false)) c.requires) c.put_text-digits.ensures)

pub put_end-requires : goal.put_end-requires
put_end-requires c = then_room _ (then_room _ (room_is (sym (link_some _ c.if-h-eq0.false)) c.requires) c.put_text-digits.ensures) c.put_number-end.ensures

pub returns : goal.returns
returns c = wrote_as _ _ (link_some _ c.if-h-eq0.false) (both _ _ (room_is (sym (link_some _ c.if-h-eq0.false)) c.requires) c.put_text-digits.ensures (both _ _ (then_room _ (room_is (sym (link_some _ c.if-h-eq0.false)) c.requires) c.put_text-digits.ensures) c.put_number-end.ensures c.put_end.ensures))
