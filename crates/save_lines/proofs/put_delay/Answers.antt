-- `put_delay` meets its contract: nothing for zero, else a space and the time.
use Rattle.text_room.proofs.Writes.{wrote_as}
use mathlib.Core.Path.{sym}
use Rattle.text_room.proofs.Chain.{wrote_nothing}
use Rattle.save_lines.proofs.Parts.{delay_none, delay_some}
use Rattle.text_room.proofs.Chain.{room_is, first_room, then_room, both}
use Rattle.save_lines.proofs.put_delay.Goals as goal

pub returns-then-delay-eq0 : goal.returns-then-delay-eq0
returns-then-delay-eq0 c = wrote_nothing _ _ (delay_none _ c.if-delay-eq0.true)

pub put_text-digits-requires : goal.put_text-digits-requires
put_text-digits-requires c = first_room _ (room_is (sym (delay_some _ c.if-delay-eq0.false)) c.requires)

pub put_time-requires : goal.put_time-requires
put_time-requires c = then_room _ (room_is (sym (delay_some _ c.if-delay-eq0.false)) c.requires) c.put_text-digits.ensures

pub returns : goal.returns
returns c = wrote_as _ _ (delay_some _ c.if-delay-eq0.false) (both _ _ (room_is (sym (delay_some _ c.if-delay-eq0.false)) c.requires) c.put_text-digits.ensures c.put_time.ensures)
