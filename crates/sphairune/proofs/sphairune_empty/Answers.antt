-- `sphairune_empty` meets its contract: a refusal gives its word, and done is 0.
use Rattle.std.specs.Prelude.{Err, Ok}
use Rattle.sphairune.proofs.Laws.{answered, empty_within, empty_by_lem}
use Rattle.sphairune.proofs.sphairune_empty.Goals as goal

pub word-requires : goal.word-requires
word-requires c = empty_within _ _ c.empty.ensures c.in-Err.is

pub returns-in-Err : goal.returns-in-Err
returns-in-Err c = answered c.word.ensures (empty_by_lem _ c.desk_of.ensures _ c.empty.ensures (Err _) c.in-Err.is)

pub returns-in-Ok : goal.returns-in-Ok
returns-in-Ok c = empty_by_lem _ c.desk_of.ensures _ c.empty.ensures (Ok tt) c.in-Ok.is
