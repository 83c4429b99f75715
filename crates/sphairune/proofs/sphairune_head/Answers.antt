-- `sphairune_head` meets its contract: a refusal gives its word, and the values go into the lent list.
use Rattle.std.specs.Prelude.{None, Ok, Some}
use mathlib.Core.Path.{refl, ap, ◌∙◌}
use Rattle.sphairune.proofs.Laws.{answered, head_within, mute_list, told_values, head_by_lem, head_away, answer}
use Rattle.sphairune.proofs.sphairune_head.Goals as goal

pub word-requires : goal.word-requires
word-requires c = head_within _ _ _ c.head.ensures c.in-Err.is

pub returns-in-Err : goal.returns-in-Err
returns-in-Err c = answered c.word.ensures (head_away _ c.desk_of.ensures _ _ _ c.head.ensures c.in-Err.is)

pub returns-in-Ok-None : goal.returns-in-Ok-None
returns-in-Ok-None c = head_by_lem _ c.desk_of.ensures _ _ _ c.head.ensures (Ok None) (c.in-Ok-None.is ∙ ap answer c.in-Ok-None.field-0-is) (mute_list _ refl)

pub returns-in-Ok-Some : goal.returns-in-Ok-Some
returns-in-Ok-Some c = head_by_lem _ c.desk_of.ensures _ _ _ c.head.ensures (Ok (Some _)) (c.in-Ok-Some.is ∙ ap answer c.in-Ok-Some.field-0-is) (told_values _ c.head_values.ensures c.note_all.ensures)
