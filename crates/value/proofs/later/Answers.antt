-- `later` meets its contract: one part or two, each in its range, so that what is joined stays small.
use mathlib.Core.Path.{sym, ◌∙◌}
use native.Mathlib.Omega.{arith}
use lib.Seq.{length-take-le}
use Rattle.value.specs.Integer.{cap}
use Rattle.value.specs.Time.{part_max}
use Rattle.value.proofs.Times.{at_most_up, part_at_most, middle_at_most, later_one_is, later_two_is}
use Rattle.value.proofs.later.Goals as goal

pub joined-requires : goal.joined-requires
joined-requires c = record { high_bound = at_most_up {n = part_max} {m = 10000000} c.args.first c.requires (omega arith); base_bound = omega arith; low_capped = part_at_most cap _ c.part.ensures (omega arith) }

pub returns-then-s-colon : goal.returns-then-s-colon
returns-then-s-colon c = c.joined.ensures ∙ later_one_is _ _ c.cut-colon.ensures c.if-s-colon.true c.part.ensures

pub slice_bounds-part-end : goal.slice_bounds-part-end
slice_bounds-part-end c = sym (length-take-le _ _ (omega arith))

pub joined-middle-requires : goal.joined-middle-requires
joined-middle-requires c = record { high_bound = at_most_up {n = part_max} {m = 10000000} c.args.first c.requires (omega arith); base_bound = omega arith; low_capped = part_at_most cap _ c.part-2.ensures (omega arith) }

pub joined-requires-2 : goal.joined-requires-2
joined-requires-2 c = record { high_bound = middle_at_most _ _ c.requires c.part-2.ensures c.joined-middle.ensures; base_bound = omega arith; low_capped = part_at_most cap _ c.part-3.ensures (omega arith) }

pub returns : goal.returns
returns c =
    c.joined-2.ensures
    ∙ later_two_is _ _ c.cut-colon.ensures
    c.if-s-colon.false c.part-2.ensures
    c.joined-middle.ensures c.part-3.ensures
