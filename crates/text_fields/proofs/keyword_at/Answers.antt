-- `text_fields::keyword_at` meets its contract: CHAN by the quick test, every other keyword by its number.
use mathlib.Core.Path.{sym, ◌∙◌}
use Rattle.text_fields.proofs.Runs.{said_chan, said_by_lem}
use Rattle.text_fields.proofs.keyword_at.Goals as goal

pub returns-then-is_chan : goal.returns-then-is_chan
returns-then-is_chan c = said_chan _ _ (sym c.is_chan.ensures ∙ c.if-is_chan.true)

pub returns : goal.returns
returns c = said_by_lem _ _ c.key_at-w.ensures c.byte.ensures c.byte-2.ensures c.keyword_of.ensures
