-- `text_bearing` meets its contract: with a keyword, and with none.
use Rattle.load_translate.proofs.Reading.{blank_bears, family_bears}
use Rattle.load_naming.proofs.Fields.{said_line}
use Rattle.load_translate.proofs.text_bearing.Goals as goal

pub family_bearing-requires : goal.family_bearing-requires
family_bearing-requires c = said_line _ c.field_start-start.ensures c.keyword_again-said.ensures c.requires

pub returns-then-start-text : goal.returns-then-start-text
returns-then-start-text c = family_bears _ c.field_start-start.ensures c.keyword_again-said.ensures c.if-start-text.true c.family_of.ensures c.family_bearing.ensures

pub returns : goal.returns
returns c = blank_bears _ c.field_start-start.ensures c.if-start-text.false
