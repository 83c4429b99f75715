-- `ranged` meets its contract, by whether the field ends with its digits, and by their value.
use Rattle.std.proofs.Common.{rules}
use native.Mathlib.Omega.{arith}
use Rattle.load_items.proofs.Fields.{digits_within, ranged_within, ranged_outside, ranged_longer, ranged_empty}
use Rattle.load_items.proofs.ranged.Goals as goal
use Rattle.load_items.proofs.ranged.Goals.{then-not-ends-via-then-not-ends, then-not-ends-via-else-not-ends+then-at-end}

pub wrong-requires : goal.wrong-requires
wrong-requires c = digits_within _ _ c.digits_at-d.ensures c.requires

pub returns-then-not-ends : goal.returns-then-not-ends
returns-then-not-ends c =
    elim c.then-not-ends.branch [
      | then-not-ends-via-then-not-ends w ↦ ranged_longer _ _ _ _ c.digits_at-d.ensures c.ends.ensures w.if-not-ends.true c.wrong.ensures
      | then-not-ends-via-else-not-ends+then-at-end w ↦
          ranged_empty _ _ _ _ c.digits_at-d.ensures c.ends.ensures w.if-not-ends.false (omega (arith, w.if-at-end.true)) c.wrong.ensures
    ]

pub returns-then-contains : goal.returns-then-contains
returns-then-contains c = ranged_within _ _ _ _ c.digits_at-d.ensures c.ends.ensures c.if-not-ends.false c.if-at-end.false (search rules)

pub returns-else-contains : goal.returns-else-contains
returns-else-contains c = ranged_outside _ _ _ _ c.digits_at-d.ensures c.ends.ensures c.if-not-ends.false c.if-at-end.false (search rules)
