-- `put_part` meets its contract: a colon and its digits, of which there are two at least.
use Rattle.std.proofs.Common.{arith, length-set}
use Rattle.text_room.proofs.Writes.{wrote_lead, wrote_as}
use Rattle.value_written.proofs.Texts.{integer_length, part_length, part_is}
use Rattle.value_written.proofs.put_part.Goals as goal

pub bounds-out-at : goal.bounds-out-at
bounds-out-at c = omega (arith, part_length c.args.v)

pub put_digits-requires-clause-count_in_bounds : goal.put_digits-requires-clause-count_in_bounds
put_digits-requires-clause-count_in_bounds c = simp length-set (omega (arith, integer_length c.args.v, part_length c.args.v))

pub returns : goal.returns
returns c =
    wrote_as _ _ (part_is _ (omega arith))
    (wrote_lead _ _ _ _ (omega (arith, part_length c.args.v)) c.put_digits.ensures)
