-- `put_fixed` meets its contract: the digits behind the mark.
use mathlib.Core.Path.{sym}
use native.Mathlib.Omega.{arith}
use Rattle.text_room.proofs.Writes.{wrote_as}
use Rattle.text_room.proofs.Chain.{room_is, first_room, then_room, both}
use Rattle.tidy_printed.proofs.Parts.{fixed_is}
use Rattle.tidy_printed.proofs.Lengths.{digits_room}
use Rattle.tidy_printed.proofs.put_fixed.Goals as goal

pub put_text-digits-requires : goal.put_text-digits-requires
put_text-digits-requires c = first_room _ (room_is (sym (fixed_is _ _ _)) c.requires)

pub put_digits-requires : goal.put_digits-requires
put_digits-requires c = record { count_in_bounds = digits_room _ _ (then_room _ (room_is (sym (fixed_is _ _ _)) c.requires) c.put_text-digits.ensures); radix_nonzero = omega arith; radix_bound = omega arith }

pub returns : goal.returns
returns c = wrote_as _ _ (fixed_is _ _ _) (both _ _ (room_is (sym (fixed_is _ _ _)) c.requires) c.put_text-digits.ensures c.put_digits.ensures)
