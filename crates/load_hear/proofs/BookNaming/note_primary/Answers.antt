-- `note_primary` meets its contract: the outcome says whether the primary was accepted.
use Rattle.std.proofs.Common.{sym, ◌∙◌}
use Rattle.load_hear.proofs.Booking.{accepted_noted, refused_noted}
use Rattle.load_hear.proofs.BookNaming.note_primary.Goals as goal

pub returns-then-is_obeyed : goal.returns-then-is_obeyed
returns-then-is_obeyed c = accepted_noted _ _ _ _ (sym c.is_obeyed.ensures ∙ c.if-is_obeyed.true) c.accept.ensures

pub returns-else-is_obeyed : goal.returns-else-is_obeyed
returns-else-is_obeyed c = refused_noted _ _ _ _ (sym c.is_obeyed.ensures ∙ c.if-is_obeyed.false) (c.refuse.ensures _)
