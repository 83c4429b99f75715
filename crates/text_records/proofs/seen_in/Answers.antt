-- `seen_in` meets its contract: what was seen so far, and what is seen in the rest, is seen in all of it.
use Rattle.std.proofs.Common.{◌||◌, ap}
use Rattle.text_records.specs.Cleaning.{is_high, is_control}
use Rattle.text_records.proofs.Cleaning.{high_as, looked_on, looked_all, seen_all}
use Rattle.text_records.proofs.seen_in.Goals as goal

pub loop-c-preserved : goal.loop-c-preserved
loop-c-preserved c = (
  looked_on is_high _ _ c.loop-c.high c.loop-c-test.true (ap (λ b. c.loop-c.high || b) (high_as _)) c.loop-c.invariant.0,
  looked_on is_control _ _ c.loop-c.control c.loop-c-test.true (ap (λ b. c.loop-c.control || b) c.is_control-control.ensures) c.loop-c.invariant.1,
)

pub returns : goal.returns
returns c = seen_all _ (looked_all is_high _ c.loop-c.c-index c.loop-c-test.false c.loop-c.invariant.0) (looked_all is_control _ c.loop-c.c-index c.loop-c-test.false c.loop-c.invariant.1)
