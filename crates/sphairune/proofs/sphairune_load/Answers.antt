-- `sphairune_load` meets its contract: a refusal gives its word, and the totals go into the lent list.
use Rattle.std.specs.Prelude.{Ok}
use Rattle.sphairune.proofs.Laws.{answered, load_within, told_values, load_by_lem, load_away}
use Rattle.sphairune.proofs.sphairune_load.Goals as goal

pub word-requires : goal.word-requires
word-requires c = load_within _ _ _ _ c.load.ensures c.in-Err.is

pub returns-in-Err : goal.returns-in-Err
returns-in-Err c = answered c.word.ensures (load_away _ c.desk_of.ensures _ _ _ _ c.load.ensures c.in-Err.is)

pub returns-in-Ok : goal.returns-in-Ok
returns-in-Ok c = load_by_lem _ c.desk_of.ensures _ _ _ _ c.load.ensures (Ok _) c.in-Ok.is (told_values _ c.totals_told.ensures c.note_all.ensures)
