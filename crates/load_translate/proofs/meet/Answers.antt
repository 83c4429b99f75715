-- `meet` meets its contract: the slots that are left are met as they are from the start.
use Rattle.std.proofs.Common.{sym, ◌∙◌, arith}
use Rattle.load_translate.proofs.Bearers.{meet_more, meet_end}
use Rattle.load_translate.proofs.meet.Goals as goal

pub loop-i-preserved : goal.loop-i-preserved
loop-i-preserved c =
    let l = c.loop-i in l.invariant ∙ meet_more _ _ _ _ l.found (omega (arith, c.loop-i-test.true, l.auto.found)) c.bearer_now.ensures

pub returns : goal.returns
returns c = let l = c.loop-i in sym (l.invariant ∙ meet_end _ _ _ _ l.found (omega (arith, c.loop-i-test.false, l.auto.found)))
