-- `put` meets its contract: R6 or the text, as of a stream that is not too long.
use mathlib.Core.Path.{refl}
use Rattle.show.proofs.Laws.{put_short, put_done}
use Rattle.show_words.proofs.put.Goals as goal

pub returns-then-out-text : goal.returns-then-out-text
returns-then-out-text c = put_short _ _ refl c.requires c.if-out-text.true

pub returns : goal.returns
returns c = put_done _ _ refl c.requires c.if-out-text.false c.put_text.ensures
