-- `read_borne` meets its contract: whole part and fraction, each cut at the cap.
use Rattle.value.specs.Parts.{point}
use Rattle.value.proofs.Cuts.{cut_count, decimals_capped}
use mathlib.Core.Path.{sym, ◌∙◌, subst}
use Rattle.value.specs.Integer.{cap, AtMost}
use Rattle.value.proofs.Numbers.{borne_is}
use Rattle.value.proofs.read_borne.Goals as goal

pub slice_bounds-read_integer-end : goal.slice_bounds-read_integer-end
slice_bounds-read_integer-end c = cut_count point _ c.cut-point.ensures

pub borne-requires : goal.borne-requires
borne-requires c = subst (AtMost cap) (sym c.decimals.ensures) (decimals_capped _ _ _)

pub returns : goal.returns
returns c =
    c.borne.ensures
    ∙ borne_is _ c.cut-point.ensures c.read_integer-whole.ensures
    c.decimals.ensures
