-- `read_time` meets its contract: the parts joined, each known to be small.
use Rattle.value.specs.Parts.{point}
use Rattle.value.proofs.Cuts.{cut_count, decimals_capped}
use mathlib.Core.Path.{sym, subst}
use native.Mathlib.Omega.{arith}
use Rattle.value.specs.Integer.{cap, AtMost}
use Rattle.value.proofs.Times.{clock_at_most, time_is}
use Rattle.value.proofs.read_time.Goals as goal

pub slice_bounds-clock-end : goal.slice_bounds-clock-end
slice_bounds-clock-end c = cut_count point _ c.cut-point.ensures

pub joined-requires : goal.joined-requires
joined-requires c = record { high_bound = clock_at_most _ c.clock-seconds.ensures; base_bound = omega arith; low_capped = subst (AtMost cap) (sym c.decimals.ensures) (decimals_capped _ _ _) }

pub returns : goal.returns
returns c =
    time_is _ c.cut-point.ensures c.clock-seconds.ensures
    c.decimals.ensures c.joined.ensures
