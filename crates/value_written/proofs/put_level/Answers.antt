-- `put_level` meets its contract: H and two digits.
use native.Mathlib.Omega.{arith}
use lib.ListN.{length-set}
use Rattle.value_written.specs.Text.{level_text}
use Rattle.value_written.proofs.Texts.{level_length}
use Rattle.text_room.proofs.Writes.{wrote_lead}
use Rattle.value_written.proofs.put_level.Goals as goal

pub bounds-out-at : goal.bounds-out-at
bounds-out-at c = omega (arith, level_length c.args.level)

pub put_digits-requires : goal.put_digits-requires
put_digits-requires c = record { count_in_bounds = simp length-set (omega (arith, level_length c.args.level)); radix_nonzero = omega arith; radix_bound = omega arith }

pub returns : goal.returns
unfolding level_text
returns c =
    wrote_lead _ _ _ _ (omega (arith, level_length c.args.level))
    (rw c.from.ensures at c.put_digits.ensures)
