-- `note_length` meets its contract: one number from the front on.
use Rattle.cells.specs.Note.{noted_from}
use Rattle.sphairune.proofs.note_length.Goals as goal

pub returns : goal.returns
unfolding noted_from
returns c = c.note.ensures
