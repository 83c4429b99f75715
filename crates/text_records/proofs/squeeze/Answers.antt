-- `squeeze` meets its contract: the loop's invariant is the law's `Squeezed`.
use Rattle.text_records.proofs.Cleaning.{squeezed_none, squeezed_kept, squeezed_past, squeezed_count, squeezed_all}
use Rattle.text_records.proofs.squeeze.Goals as goal
use Rattle.text_records.proofs.squeeze.Goals.{then-is_kept, else-is_kept}

pub loop-i-init : goal.loop-i-init
loop-i-init c = squeezed_none _

pub loop-i-preserved : goal.loop-i-preserved
loop-i-preserved c =
    elim c.if-is_kept.branch [
      | then-is_kept w ↦ squeezed_kept _ _ _ _ c.loop-i.invariant c.requires c.loop-i-test.true c.is_kept.ensures w.if-is_kept.true w.s-is w.n-is
      | else-is_kept w ↦ squeezed_past _ _ _ _ c.loop-i.invariant c.requires c.loop-i-test.true c.is_kept.ensures w.if-is_kept.false w.s-is w.n-is
    ]

pub returns-clause-value : goal.returns-clause-value
returns-clause-value c = squeezed_count _ _ _ _ c.loop-i.invariant c.loop-i-test.false

pub returns-clause-s_after : goal.returns-clause-s_after
returns-clause-s_after c = squeezed_all _ _ _ _ c.loop-i.invariant c.loop-i-test.false
