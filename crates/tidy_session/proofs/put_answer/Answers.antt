-- `put_answer` meets its contract: what is told, and the show behind it; there is room for both.
use native.Mathlib.Omega.{arith}
use Rattle.tidy_session.proofs.Told.{tallies, told_room, shown_room, told_then}
use Rattle.tidy_session.proofs.put_answer.Goals as goal

pub put_told-at-requires : goal.put_told-at-requires
put_told-at-requires c = told_room _ c.args.reports.now c.args.t (tallies c.args.t (omega arith) (omega arith) (omega arith) (omega arith)) c.requires.reports_len_bound c.requires.in_bounds

pub put_shown-requires : goal.put_shown-requires
put_shown-requires c = record { ready = c.requires.ready; at_in_bounds = shown_room _ c.args.reports.now c.args.t (tallies c.args.t (omega arith) (omega arith) (omega arith) (omega arith)) c.requires.reports_len_bound c.requires.in_bounds c.put_told-at.ensures }

pub returns : goal.returns
returns c = told_then _ _ _ c.put_told-at.ensures c.put_shown.ensures
