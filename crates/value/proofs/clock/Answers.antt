-- `clock` meets its contract: the first part, and the others where there is a colon.
use Rattle.value.specs.Parts.{colon}
use Rattle.value.proofs.Cuts.{cut_count}
use native.Mathlib.Omega.{arith}
use Rattle.value.specs.Time.{part_max}
use Rattle.value.proofs.Times.{part_at_most, clock_one_is, clock_more_is}
use Rattle.value.proofs.clock.Goals as goal

pub slice_bounds-part-end : goal.slice_bounds-part-end
slice_bounds-part-end c = cut_count colon _ c.cut-colon.ensures

pub returns-then-s-colon : goal.returns-then-s-colon
returns-then-s-colon c = clock_one_is _ c.cut-colon.ensures c.if-s-colon.true c.part-first.ensures

pub later-requires : goal.later-requires
later-requires c = part_at_most part_max _ c.part-first.ensures (omega arith)

pub returns : goal.returns
returns c =
    clock_more_is _ c.cut-colon.ensures c.if-s-colon.false
    c.part-first.ensures c.later.ensures
