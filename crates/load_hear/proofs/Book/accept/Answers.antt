-- `accept` meets its contract, kind by kind: of a CUE the mark, what it asked for, and two counts.
use Rattle.load_hear.proofs.Booking.{cue_accepted, group_accepted, sub_accepted}
use Rattle.load_hear.proofs.Book.accept.Goals as goal

pub returns-in-Cue : goal.returns-in-Cue
returns-in-Cue c = cue_accepted _ _ c.in-Cue.is c.mark.ensures c.note.ensures

pub returns-in-Group : goal.returns-in-Group
returns-in-Group c = group_accepted _ _ c.in-Group.is

pub returns-in-Sub : goal.returns-in-Sub
returns-in-Sub c = sub_accepted _ _ c.in-Sub.is
