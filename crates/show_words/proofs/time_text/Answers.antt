-- `time_text` meets its contract: the length that is found is the text's, which is short.
use native.Mathlib.Omega.{arith}
use Rattle.show_words.proofs.Laws.{time_small}
use Rattle.show.proofs.Laws.{put_short, put_done}
use Rattle.show_words.proofs.time_text.Goals as goal

pub returns-then-out-n : goal.returns-then-out-n
returns-then-out-n c = put_short _ _ c.time_length-n.ensures (time_small c.args.tenths (omega arith) c.time_length-n.ensures) c.if-out-n.true

pub returns : goal.returns
returns c = put_done _ _ c.time_length-n.ensures (time_small c.args.tenths (omega arith) c.time_length-n.ensures) c.if-out-n.false c.put_time.ensures
