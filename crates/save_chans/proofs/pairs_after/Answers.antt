-- `pairs_after` meets its contract, case by case.
use Rattle.save_chans.proofs.Channels.{with_full, with_more}
use Rattle.save_chans.proofs.pairs_after.Goals as goal

pub returns-then-pairs-eq-MOST_PAIRS : goal.returns-then-pairs-eq-MOST_PAIRS
returns-then-pairs-eq-MOST_PAIRS c = with_full c.args.pairs c.if-pairs-eq-MOST_PAIRS.true

pub returns-else-pairs-eq-MOST_PAIRS : goal.returns-else-pairs-eq-MOST_PAIRS
returns-else-pairs-eq-MOST_PAIRS c = with_more c.args.pairs c.if-pairs-eq-MOST_PAIRS.false
