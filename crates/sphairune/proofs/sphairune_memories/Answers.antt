-- `sphairune_memories` meets its contract: a refusal gives its word, and the count goes into the lent list.
use Rattle.std.specs.Prelude.{None, Ok, Some}
use mathlib.Core.Path.{refl, ap, ◌∙◌}
use Rattle.sphairune.proofs.Laws.{answered, memories_within, mute_list, memories_by_lem, memories_away, answer}
use Rattle.sphairune.proofs.sphairune_memories.Goals as goal

pub word-requires : goal.word-requires
word-requires c = memories_within _ _ _ _ c.memories.ensures c.in-Err.is

pub returns-in-Err : goal.returns-in-Err
returns-in-Err c = answered c.word.ensures (memories_away _ c.desk_of.ensures _ _ _ _ c.memories.ensures c.in-Err.is)

pub returns-in-Ok-None : goal.returns-in-Ok-None
returns-in-Ok-None c = memories_by_lem _ c.desk_of.ensures _ _ _ _ c.memories.ensures (Ok None) (c.in-Ok-None.is ∙ ap answer c.in-Ok-None.field-0-is) (mute_list _ refl)

pub returns-in-Ok-Some : goal.returns-in-Ok-Some
returns-in-Ok-Some c = memories_by_lem _ c.desk_of.ensures _ _ _ _ c.memories.ensures (Ok (Some _)) (c.in-Ok-Some.is ∙ ap answer c.in-Ok-Some.field-0-is) c.note_length.ensures
