-- `primary` meets its contract: support, then the name.
use mathlib.Core.Path.{sym, ◌∙◌}
use Rattle.text_fields.specs.Places.{words_from}
use Rattle.load_held.specs.Parts.{keyword_in}
use Rattle.load_held.proofs.Answers.{asked_as, skips_as}
use Rattle.load_step.proofs.Primaries.{primary_unsupported, primary_refused, primary_opened, primary_ok}
use Rattle.load_step.proofs.primary.Goals as goal

pub name_in-requires : goal.name_in-requires
name_in-requires g c = record { kind_supported = sym c.supports.ensures ∙ c.if-not-supports.false; counts_fit = c.requires.counts_fit; line = c.requires.line }

pub returns-in-Err : goal.returns-in-Err
returns-in-Err g c = asked_as _ _ _ (primary_refused _ (g.N.Naming.numbers c.args.book.now) _ (keyword_in c.args.text.now) (words_from c.args.text.now c.args.at) c.supports.ensures c.if-not-supports.false c.name_in.ensures c.in-Err.is) (skips_as _ _ _ _ c.refused-in-Err.ensures)

pub opened-requires : goal.opened-requires
opened-requires g c = record { fitting = c.requires.fitting; key_value = primary_ok _ (g.N.Naming.numbers c.args.book.now) _ (words_from c.args.text.now c.args.at) c.supports.ensures c.if-not-supports.false c.name_in.ensures c.requires.fitting.range c.in-Ok.is }

pub returns-in-Ok : goal.returns-in-Ok
returns-in-Ok g c = asked_as _ _ _ (primary_opened _ (g.N.Naming.numbers c.args.book.now) _ (keyword_in c.args.text.now) (words_from c.args.text.now c.args.at) c.supports.ensures c.if-not-supports.false c.name_in.ensures c.in-Ok.is) c.opened.ensures

pub returns-then-not-supports : goal.returns-then-not-supports
returns-then-not-supports g c = asked_as _ _ _ (primary_unsupported _ (g.N.Naming.numbers c.args.book.now) _ (keyword_in c.args.text.now) (words_from c.args.text.now c.args.at) c.supports.ensures c.if-not-supports.true c.unsupported.ensures c.blamed_at.ensures) (skips_as _ _ _ _ c.refused.ensures)
