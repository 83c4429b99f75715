-- `text_fields::keyword_of` meets its contract: a `$` decides before any name.
use Rattle.text_fields.proofs.Keys.{by_comment, by_local, by_keyword}
use Rattle.text_fields.proofs.keyword_of.Goals as goal

pub returns-in-36-eq36 : goal.returns-in-36-eq36
returns-in-36-eq36 c = by_comment _ _ _ c.in-36-eq36.is-0 c.in-36-eq36.is-1

pub returns-in-36-default : goal.returns-in-36-default
returns-in-36-default c = by_local _ _ _ c.in-36-default.is-0 c.in-36-default.is-1.1

pub returns-in_default : goal.returns-in_default
returns-in_default c = by_keyword _ _ _ c.in_default.is-0.1 c.keyword_by.ensures
