-- `text_fields::keyword_again` meets its contract: every keyword by its number.
use Rattle.text_fields.proofs.Runs.{said_by_lem}
use Rattle.text_fields.proofs.keyword_again.Goals as goal

pub returns : goal.returns
returns c = said_by_lem _ _ c.key_at-w.ensures c.byte.ensures c.byte-2.ensures c.keyword_of.ensures
