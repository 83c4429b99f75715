-- `sphairune_write` meets its contract: what the call answers is noted.
use Rattle.sphairune.proofs.Laws.{write_most, write_by_lem}
use Rattle.sphairune.proofs.sphairune_write.Goals as goal

pub note_written-requires : goal.note_written-requires
note_written-requires c = write_most _ _ _ c.write-written.result c.write-written.ensures

pub returns : goal.returns
returns c = write_by_lem _ c.desk_of.ensures _ _ _ c.write-written.result c.write-written.ensures c.note_written.ensures
