-- `is_mark` meets its contract: past the end of the marks nothing is marked.
use Rattle.std.proofs.Common.{ℕ, eqb, ap, ◌∙◌}
use borrow.Author.Tests.{le-ltb}
use Rattle.load_hear.proofs.Bits.{bit_shifted}
use Rattle.load_hear.proofs.Noting.{none_marked}
use Rattle.load_hear.specs.Marks.{is_marked}
use Rattle.load_hear.proofs.is_mark.Goals as goal

pub returns-then-i-marks : goal.returns-then-i-marks
unfolding is_marked
returns-then-i-marks c = ap (λ (k : ℕ). eqb k 1) (bit_shifted _ _)

pub returns-else-i-marks : goal.returns-else-i-marks
returns-else-i-marks c = le-ltb _ _ c.if-i-marks.false ∙ none_marked _ _ c.if-i-marks.false
