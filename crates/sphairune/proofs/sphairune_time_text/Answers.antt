-- `sphairune_time_text` meets its contract: what the call answers is noted.
use Rattle.sphairune.proofs.Laws.{text_most, written_by}
use Rattle.sphairune.proofs.sphairune_time_text.Goals as goal

pub note_written-requires : goal.note_written-requires
note_written-requires c = text_most _ _ c.time_text-written.result c.time_text-written.ensures

pub returns : goal.returns
returns c = written_by _ c.time_text-written.result c.time_text-written.ensures c.note_written.ensures
