-- `refuse` meets its contract: a CUE that was refused was tried, and no other count moves.
use Rattle.load_hear.proofs.Booking.{cue_refused, kind_refused}
use Rattle.load_hear.proofs.Book.refuse.Goals as goal

pub returns-in-Cue : goal.returns-in-Cue
returns-in-Cue c slot = cue_refused _ slot c.in-Cue.is

pub returns-in-Group : goal.returns-in-Group
returns-in-Group c slot = kind_refused _ slot c.in-Group.is
