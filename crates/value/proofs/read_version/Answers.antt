-- `read_version` meets its contract: two integers about a colon.
use mathlib.Core.Path.{sym, ◌∙◌}
use lib.Seq.{length-take-le}
use native.Mathlib.Omega.{arith}
use Rattle.value.proofs.Numbers.{version_none, version_is}
use Rattle.value.proofs.read_version.Goals as goal

pub returns-then-s-colon : goal.returns-then-s-colon
returns-then-s-colon c = sym (version_none _ c.cut-colon.ensures c.if-s-colon.true)

pub slice_bounds-read_integer-end : goal.slice_bounds-read_integer-end
slice_bounds-read_integer-end c = sym (length-take-le _ _ (omega arith))

pub returns : goal.returns
returns c =
    c.versioned.ensures
    ∙ version_is _ c.cut-colon.ensures
    c.if-s-colon.false c.read_integer-major.ensures
    c.read_integer.ensures
