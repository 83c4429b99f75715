-- `note_written` meets its contract: a length, or what a refusal tells, goes into the list.
use Rattle.sphairune.proofs.Laws.{note_most, note_away, note_done}
use Rattle.sphairune.proofs.note_written.Goals as goal

pub word-requires : goal.word-requires
word-requires c = note_most c.requires c.in-Err.is

pub returns-in-Err : goal.returns-in-Err
returns-in-Err c = note_away _ c.in-Err.is c.word.ensures c.note_told.ensures

pub returns-in-Ok : goal.returns-in-Ok
returns-in-Ok c = note_done _ c.in-Ok.is c.note_length.ensures
