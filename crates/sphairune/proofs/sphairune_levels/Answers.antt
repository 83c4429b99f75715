-- `sphairune_levels` meets its contract: what the call answers is noted.
use Rattle.sphairune.proofs.Laws.{levels_telling, levels_by_lem}
use Rattle.sphairune.proofs.sphairune_levels.Goals as goal

pub note_placed-requires : goal.note_placed-requires
note_placed-requires c = levels_telling _ _ _ c.levels-placed.result c.levels-placed.ensures

pub returns : goal.returns
returns c = levels_by_lem _ c.desk_of.ensures _ _ _ c.levels-placed.result c.levels-placed.ensures c.note_placed.ensures
