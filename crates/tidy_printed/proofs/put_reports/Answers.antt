-- `put_reports` meets its contract. The loop's invariant: what is written, with the lines of the reports that are left, is all their lines.
use Rattle.tidy_printed.proofs.Loops.{printing_start, printing_room, printing_turn, printing_end}
use Rattle.tidy_printed.proofs.put_reports.Goals as goal

pub loop-word-init : goal.loop-word-init
loop-word-init c = printing_start _ c.requires

pub put_report-next-requires : goal.put_report-next-requires
put_report-next-requires c = let at = c.in-Some.ensures.lookup.3 in printing_room c.loop-word.invariant at.0 (at.1 0)

pub loop-word-preserved : goal.loop-word-preserved
loop-word-preserved c = let at = c.in-Some.ensures.lookup.3 in printing_turn c.loop-word.invariant at.0 (at.1 0) c.put_report-next.ensures

pub returns : goal.returns
returns c = printing_end c.loop-word.invariant c.in_default.ensures.lookup.3
