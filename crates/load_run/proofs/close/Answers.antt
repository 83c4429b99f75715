-- `close` meets its contract: the counters as they are, or after 0100.
use Rattle.load_run.proofs.Closing.{close_stopped, close_told}
use native.Mathlib.Omega.{arith}
use Rattle.load_run.proofs.close.Goals as goal

pub returns-then-stopped : goal.returns-then-stopped
returns-then-stopped c = close_stopped _ _ c.if-stopped.true c.totals.ensures

pub report-requires : goal.report-requires
report-requires c =
    let q = c.requires in
    record { numbered = q.numbered; room = q.room; small = omega arith; narrow = q.narrow }

pub returns : goal.returns
returns c = close_told _ _ c.if-stopped.false c.report.ensures c.totals-2.ensures
