-- `clear_slot` meets its contract, by the test.
use mathlib.Core.Path.{sym, ◌∙◌}
use Rattle.cells.proofs.Split.{cond-true, cond-false}
use Rattle.store_code.proofs.clear_slot.Goals as goal

pub returns-then-hits : goal.returns-then-hits
returns-then-hits c = c.zero_slot.ensures ∙ sym (cond-true _ _ _ (sym c.hits.ensures ∙ c.if-hits.true))

pub returns-else-hits : goal.returns-else-hits
returns-else-hits c = sym (cond-false _ _ _ (sym c.hits.ensures ∙ c.if-hits.false))
