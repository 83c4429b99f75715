-- `tidy` meets its contract, by the cases of the text: too much input, or what is read.
use Rattle.tidy_session.proofs.Told.{too_long, read}
use Rattle.tidy_session.proofs.tidy.Goals as goal

pub returns-then-input-gt-MOST_INPUT : goal.returns-then-input-gt-MOST_INPUT
returns-then-input-gt-MOST_INPUT c = too_long _ _ c.if-input-gt-MOST_INPUT.true c.put_text.ensures

pub returns : goal.returns
returns c = read _ _ c.if-input-gt-MOST_INPUT.false c.put_load.ensures
