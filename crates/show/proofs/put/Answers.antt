-- `put` meets its contract: the length that is found is the stream's, so that R5, R6 and the written stream are the cases of `put_call`.
use Rattle.show.proofs.Laws.{put_long, put_short, put_done}
use Rattle.show.proofs.put.Goals as goal

pub returns-then-n-gt-MOST_BYTES : goal.returns-then-n-gt-MOST_BYTES
returns-then-n-gt-MOST_BYTES c = put_long _ _ c.length-n.ensures c.if-n-gt-MOST_BYTES.true

pub returns-then-out-n : goal.returns-then-out-n
returns-then-out-n c = put_short _ _ c.length-n.ensures c.if-n-gt-MOST_BYTES.false c.if-out-n.true

pub returns : goal.returns
returns c = put_done _ _ c.length-n.ensures c.if-n-gt-MOST_BYTES.false c.if-out-n.false c.stream.ensures
