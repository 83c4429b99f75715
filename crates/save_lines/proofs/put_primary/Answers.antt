-- `put_primary` meets its contract: its parts, one behind the other.
use Rattle.value_written.specs.Text.{number_text}
use Rattle.text_room.proofs.Writes.{wrote_as}
use mathlib.Core.Path.{sym}
use Rattle.save_lines.proofs.Parts.{primary_parts}
use Rattle.text_room.proofs.Chain.{room_is, first_room, then_room, both}
use Rattle.save_lines.proofs.put_primary.Goals as goal

pub put_text-digits-requires : goal.put_text-digits-requires
put_text-digits-requires c = first_room _ (room_is (sym (primary_parts _ _ c.kind_word.ensures)) c.requires)

pub put_number-page-requires : goal.put_number-page-requires
put_number-page-requires c = first_room {xs = number_text c.args.key.whole c.args.key.fraction} _ (then_room _ (room_is (sym (primary_parts _ _ c.kind_word.ensures)) c.requires) c.put_text-digits.ensures)

pub put_marked-end-requires : goal.put_marked-end-requires
put_marked-end-requires c = first_room _ (then_room _ (then_room _ (room_is (sym (primary_parts _ _ c.kind_word.ensures)) c.requires) c.put_text-digits.ensures) c.put_number-page.ensures)

pub put_end-requires : goal.put_end-requires
put_end-requires c = then_room _ (then_room _ (then_room _ (room_is (sym (primary_parts _ _ c.kind_word.ensures)) c.requires) c.put_text-digits.ensures) c.put_number-page.ensures) c.put_marked-end.ensures

pub returns : goal.returns
returns c = wrote_as _ _ (primary_parts _ _ c.kind_word.ensures) (both _ _ (room_is (sym (primary_parts _ _ c.kind_word.ensures)) c.requires) c.put_text-digits.ensures (both _ _ (then_room _ (room_is (sym (primary_parts _ _ c.kind_word.ensures)) c.requires) c.put_text-digits.ensures) c.put_number-page.ensures (both _ _ (then_room _ (then_room _ (room_is (sym (primary_parts _ _ c.kind_word.ensures)) c.requires) c.put_text-digits.ensures) c.put_number-page.ensures) c.put_marked-end.ensures c.put_end.ensures)))
