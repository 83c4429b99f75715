-- `fraction_length` meets its contract: nothing for zero, else the point and the digits.
use mathlib.Core.Path.{sym}
use Rattle.value_written.proofs.Texts.{fraction_length_none, fraction_length_some}
use Rattle.value_written.proofs.fraction_length.Goals as goal

pub returns-then-f-eq0 : goal.returns-then-f-eq0
returns-then-f-eq0 c = sym (fraction_length_none _ _ c.if-f-eq0.true)

pub returns : goal.returns
returns c = sym (fraction_length_some _ _ c.if-f-eq0.false)
