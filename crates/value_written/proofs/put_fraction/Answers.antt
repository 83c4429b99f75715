-- `put_fraction` meets its contract: nothing for zero, else a point and the digits.
use mathlib.Core.Path.{sym}
use native.Mathlib.Omega.{arith}
use lib.ListN.{length-set}
use Rattle.value_written.proofs.Texts.{fraction_none, fraction_some, fraction_length_some}
use Rattle.text_room.proofs.Writes.{wrote_none, wrote_lead, wrote_as}
use Rattle.value_written.proofs.put_fraction.Goals as goal

pub returns-then-f-eq0 : goal.returns-then-f-eq0
returns-then-f-eq0 c = wrote_as _ _ (sym (fraction_none _ _ c.if-f-eq0.true)) (wrote_none _ _)

pub bounds-out-at : goal.bounds-out-at
bounds-out-at c = omega (arith, fraction_length_some c.args.digits c.args.f c.if-f-eq0.false)

pub put_digits-requires : goal.put_digits-requires
put_digits-requires c = record { count_in_bounds = simp length-set (omega (arith, fraction_length_some c.args.digits c.args.f c.if-f-eq0.false)); radix_nonzero = omega arith; radix_bound = omega arith }

pub returns : goal.returns
returns c =
    wrote_as _ _ (sym (fraction_some _ _ c.if-f-eq0.false))
    (wrote_lead _ _ _ _ (omega (arith, fraction_length_some c.args.digits c.args.f c.if-f-eq0.false)) c.put_digits.ensures)
