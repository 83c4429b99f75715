-- `read_number` meets its contract: whole part and fraction, each cut at the cap.
use mathlib.Core.Path.{sym, ◌∙◌, subst}
use Rattle.value.specs.Integer.{cap, AtMost}
use Rattle.value.proofs.Digits.{integer_capped}
use Rattle.value.proofs.Cuts.{decimals_capped}
use Rattle.value.proofs.Wholes.{number_by}
use Rattle.value.proofs.read_number.Goals as goal

pub sized-requires : goal.sized-requires
sized-requires c = record { whole_capped = subst (AtMost cap) (sym c.whole_by-whole.ensures) (integer_capped _); fraction_capped = subst (AtMost cap) (sym c.decimals.ensures) (decimals_capped _ _ _) }

pub returns : goal.returns
returns c =
    c.sized.ensures
    ∙ number_by _ c.digits_at-d.ensures c.whole_by-whole.ensures c.decimals.ensures
