-- `sphairune_patch` meets its contract: a refusal gives its word, and the values go into the lent list.
use Rattle.std.specs.Prelude.{None, Ok, Some}
use mathlib.Core.Path.{refl, ap, ◌∙◌}
use Rattle.sphairune.proofs.Laws.{answered, patch_within, mute_list, told_values, patch_by_lem, patch_away, answer}
use Rattle.sphairune.proofs.sphairune_patch.Goals as goal

pub word-requires : goal.word-requires
word-requires c = patch_within _ _ _ _ c.patch.ensures c.in-Err.is

pub returns-in-Err : goal.returns-in-Err
returns-in-Err c = answered c.word.ensures (patch_away _ c.desk_of.ensures _ _ _ _ c.patch.ensures c.in-Err.is)

pub returns-in-Ok-None : goal.returns-in-Ok-None
returns-in-Ok-None c = patch_by_lem _ c.desk_of.ensures _ _ _ _ c.patch.ensures (Ok None) (c.in-Ok-None.is ∙ ap answer c.in-Ok-None.field-0-is) (mute_list _ refl)

pub returns-in-Ok-Some : goal.returns-in-Ok-Some
returns-in-Ok-Some c = patch_by_lem _ c.desk_of.ensures _ _ _ _ c.patch.ensures (Ok (Some _)) (c.in-Ok-Some.is ∙ ap answer c.in-Ok-Some.field-0-is) (told_values _ c.patch_values.ensures c.note_all.ensures)
