-- `note_link` meets its contract: the number, and 1, in the slot's place.
use Rattle.load_hear.proofs.Booking.{link_noted}
use Rattle.load_hear.proofs.BookNaming.note_link.Goals as goal

pub returns : goal.returns
returns c m e = link_noted _ _ m e c.note.ensures
