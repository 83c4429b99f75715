-- `percent` meets its contract: no digits, too large a value, and a percentage.
use Rattle.std.proofs.Common.{inl, inr, ap, ◌∙◌}
use Rattle.value_level.specs.Level.{percent_byte}
use Rattle.value_level.proofs.Spans.{percent_none, percent_over, percent_taken}
use Rattle.value_level.proofs.percent.Goals as goal

pub returns-then-value-gt-PERCENT_MAX : goal.returns-then-value-gt-PERCENT_MAX
returns-then-value-gt-PERCENT_MAX c =
    elim c.if-value-gt-PERCENT_MAX.either [
      | inl none ↦ percent_none _ _ _ c.digits_at-value.ensures none
      | inr over ↦ percent_over _ _ _ c.digits_at-value.ensures over.0 over.1
    ]

pub returns-else-value-gt-PERCENT_MAX : goal.returns-else-value-gt-PERCENT_MAX
returns-else-value-gt-PERCENT_MAX c =
    let some = c.if-value-gt-PERCENT_MAX.false in
    percent_taken _ _ _ c.digits_at-value.ensures some.0 some.1 (c.percent_byte.ensures ∙ ap percent_byte c.min.ensures)
