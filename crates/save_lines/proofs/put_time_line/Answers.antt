-- `put_time_line` meets its contract: nothing where the value is absent, else its parts, one behind the other.
use Rattle.value_written.specs.Text.{time_text}
use Rattle.text_room.proofs.Writes.{wrote_as}
use mathlib.Core.Path.{sym}
use Rattle.text_room.proofs.Chain.{wrote_nothing}
use Rattle.save_lines.proofs.Parts.{time_none, time_some}
use Rattle.text_room.proofs.Chain.{room_is, first_room, then_room, both}
use Rattle.save_lines.proofs.put_time_line.Goals as goal

pub returns-then-present-eq0 : goal.returns-then-present-eq0
returns-then-present-eq0 c = wrote_nothing _ _ (time_none _ _ _ _ c.if-present-eq0.true)

pub put_text-time-requires : goal.put_text-time-requires
put_text-time-requires c = first_room _ (room_is (sym (time_some _ _ _ _ c.if-present-eq0.false)) c.requires)

pub put_time-second-requires : goal.put_time-second-requires
put_time-second-requires c = first_room {xs = time_text c.args.fade} _ (then_room _ (room_is (sym (time_some _ _ _ _ c.if-present-eq0.false)) c.requires) c.put_text-time.ensures)

pub put_delay-end-requires : goal.put_delay-end-requires
put_delay-end-requires c = first_room _ (then_room _ (then_room _ (room_is (sym (time_some _ _ _ _ c.if-present-eq0.false)) c.requires) c.put_text-time.ensures) c.put_time-second.ensures)

pub put_end-requires : goal.put_end-requires
put_end-requires c = then_room _ (then_room _ (then_room _ (room_is (sym (time_some _ _ _ _ c.if-present-eq0.false)) c.requires) c.put_text-time.ensures) c.put_time-second.ensures) c.put_delay-end.ensures

pub returns : goal.returns
returns c = wrote_as _ _ (time_some _ _ _ _ c.if-present-eq0.false) (both _ _ (room_is (sym (time_some _ _ _ _ c.if-present-eq0.false)) c.requires) c.put_text-time.ensures (both _ _ (then_room _ (room_is (sym (time_some _ _ _ _ c.if-present-eq0.false)) c.requires) c.put_text-time.ensures) c.put_time-second.ensures (both _ _ (then_room _ (then_room _ (room_is (sym (time_some _ _ _ _ c.if-present-eq0.false)) c.requires) c.put_text-time.ensures) c.put_time-second.ensures) c.put_delay-end.ensures c.put_end.ensures)))
