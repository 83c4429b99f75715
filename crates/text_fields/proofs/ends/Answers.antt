-- `text_fields::ends` meets its contract: a place within the text is looked at; past it there is nothing more.
use mathlib.Core.Path.{◌∙◌}
use borrow.Author.Tests.{le-leb}
use Rattle.text_fields.proofs.Runs.{ends_within, ends_past}
use Rattle.text_fields.proofs.ends.Goals as goal

pub returns-then-at-text : goal.returns-then-at-text
returns-then-at-text c = le-leb _ _ c.if-at-text.true ∙ ends_past _ _ c.if-at-text.true

pub returns-else-at-text : goal.returns-else-at-text
returns-else-at-text c = ends_within _ _ c.if-at-text.false c.is_delimiter.ensures
