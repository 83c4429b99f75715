-- `needed` meets its contract: the test is the range, so that the length is asked of a desk in range alone.
use Rattle.store_desk.proofs.Size.{in_range}
use Rattle.store_desk.specs.Refusal.{needed_call}
use mathlib.Core.Path.{refl, sym, ◌∙◌}
use Rattle.store_desk.proofs.Desk.needed.Goals as goal

pub store_length-requires : goal.store_length-requires
store_length-requires c = in_range _ (sym c.in_range.ensures ∙ c.if-in_range.true)

pub returns-then-in_range : goal.returns-then-in_range
unfolding needed_call
returns-then-in_range c = rw (← c.in_range.ensures, c.if-in_range.true, c.store_length.ensures) refl

pub returns-else-in_range : goal.returns-else-in_range
unfolding needed_call
returns-else-in_range c = rw (← c.in_range.ensures, c.if-in_range.false) refl
