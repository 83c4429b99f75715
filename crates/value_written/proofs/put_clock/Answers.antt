-- `put_clock` meets its contract, shape by shape: one text behind the other.
use mathlib.Core.Path.{refl, sym}
use Rattle.text_room.proofs.Chain.{room_is, first_room, then_room, both}
use Rattle.text_room.proofs.Writes.{wrote_as}
use Rattle.value_written.proofs.Texts.{clock_seconds, clock_minutes, clock_hours_is}
use Rattle.value_written.proofs.put_clock.Goals as goal

pub put_integer-requires : goal.put_integer-requires
put_integer-requires c = room_is (clock_seconds _ c.if-seconds-lt-MINUTE.true) c.requires

pub returns-then-seconds-lt-MINUTE : goal.returns-then-seconds-lt-MINUTE
returns-then-seconds-lt-MINUTE c = wrote_as _ _ (sym (clock_seconds _ c.if-seconds-lt-MINUTE.true)) c.put_integer.ensures

pub put_integer-colon-requires : goal.put_integer-colon-requires
put_integer-colon-requires c = first_room _ (room_is (clock_minutes _ c.if-seconds-lt-MINUTE.false c.if-seconds-lt-HOUR.true) c.requires)

pub put_part-requires : goal.put_part-requires
put_part-requires c = then_room _ (room_is (clock_minutes _ c.if-seconds-lt-MINUTE.false c.if-seconds-lt-HOUR.true) c.requires) c.put_integer-colon.ensures

pub returns-then-seconds-lt-HOUR : goal.returns-then-seconds-lt-HOUR
returns-then-seconds-lt-HOUR c =
    let e = clock_minutes _ c.if-seconds-lt-MINUTE.false c.if-seconds-lt-HOUR.true in
    wrote_as _ _ (sym e)
    (both _ _ (room_is e c.requires) c.put_integer-colon.ensures c.put_part.ensures)

pub put_integer-colon-requires-2 : goal.put_integer-colon-requires-2
put_integer-colon-requires-2 c =
    first_room _
    (room_is (clock_hours_is _ c.left_by-rest.ensures c.whole_in.ensures refl refl c.if-seconds-lt-HOUR.false) c.requires)

pub put_part-second-requires : goal.put_part-second-requires
put_part-second-requires c =
    let e = clock_hours_is _ c.left_by-rest.ensures c.whole_in.ensures c.whole_in-2.ensures refl c.if-seconds-lt-HOUR.false in
    first_room _ (then_room _ (room_is e c.requires) c.put_integer-colon-2.ensures)

pub put_part-requires-2 : goal.put_part-requires-2
put_part-requires-2 c =
    let e = clock_hours_is _ c.left_by-rest.ensures c.whole_in.ensures c.whole_in-2.ensures c.left_by.ensures c.if-seconds-lt-HOUR.false in
    then_room _
    (then_room _ (room_is e c.requires) c.put_integer-colon-2.ensures)
    c.put_part-second.ensures

pub returns : goal.returns
returns c =
    let e = clock_hours_is _ c.left_by-rest.ensures c.whole_in.ensures c.whole_in-2.ensures c.left_by.ensures c.if-seconds-lt-HOUR.false in
    let r = room_is e c.requires in
    wrote_as _ _ (sym e)
    (both _ _ r c.put_integer-colon-2.ensures
    (both _ _ (then_room _ r c.put_integer-colon-2.ensures) c.put_part-second.ensures c.put_part-2.ensures))
