-- `sphairune_find` meets its contract: what the call answers is noted.
use Rattle.sphairune.proofs.Laws.{find_telling, find_by_lem}
use Rattle.sphairune.proofs.sphairune_find.Goals as goal

pub note_placed-requires : goal.note_placed-requires
note_placed-requires c = find_telling _ _ _ _ _ c.find-placed.result c.find-placed.ensures

pub returns : goal.returns
returns c = find_by_lem _ c.desk_of.ensures _ _ _ _ _ c.find-placed.result c.find-placed.ensures c.note_placed.ensures
