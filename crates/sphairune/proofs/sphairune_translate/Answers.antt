-- `sphairune_translate` meets its contract: a refusal gives its word, and the totals go into the lent list.
use Rattle.std.specs.Prelude.{Ok}
use Rattle.sphairune.proofs.Laws.{answered, translate_within, told_values, translate_by, translate_away}
use Rattle.sphairune.proofs.sphairune_translate.Goals as goal

pub word-requires : goal.word-requires
word-requires c = translate_within _ _ _ _ c.translate.ensures c.in-Err.is

pub returns-in-Err : goal.returns-in-Err
returns-in-Err c = answered c.word.ensures (translate_away _ c.desk_of.ensures _ _ _ _ c.translate.ensures c.in-Err.is)

pub returns-in-Ok : goal.returns-in-Ok
returns-in-Ok c = translate_by _ c.desk_of.ensures _ _ _ _ c.translate.ensures (Ok _) c.in-Ok.is (told_values _ c.totals_told.ensures c.note_all.ensures)
