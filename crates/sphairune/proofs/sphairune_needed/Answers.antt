-- `sphairune_needed` meets its contract: a refusal gives its word, and the length goes into the lent list.
use Rattle.std.specs.Prelude.{Ok}
use Rattle.sphairune.proofs.Laws.{answered, needed_within, needed_by, needed_away}
use Rattle.sphairune.proofs.sphairune_needed.Goals as goal

pub word-requires : goal.word-requires
word-requires c = needed_within _ c.needed.ensures c.in-Err.is

pub returns-in-Err : goal.returns-in-Err
returns-in-Err c = answered c.word.ensures (needed_away _ c.desk_of.ensures _ c.needed.ensures c.in-Err.is)

pub returns-in-Ok : goal.returns-in-Ok
returns-in-Ok c = needed_by _ c.desk_of.ensures _ c.needed.ensures (Ok _) c.in-Ok.is c.note_length.ensures
