-- `print_cases` is safe and ends: the next session begins behind the place, and within the file.
use Rattle.std.proofs.Common.{arith}
use Rattle.tidy_vectors.proofs.Cases.{ends}
use Rattle.tidy_vectors.proofs.print_cases.Goals as goal

pub loop-at-smaller : goal.loop-at-smaller
loop-at-smaller g c =
    let e = ends c.args.input.now c.loop-at.at c.loop-at-test.true c.in_ok-at.ensures in omega arith

pub loop-at-preserved : goal.loop-at-preserved
loop-at-preserved g c = (ends c.args.input.now c.loop-at.at c.loop-at-test.true c.in_ok-at.ensures).1
