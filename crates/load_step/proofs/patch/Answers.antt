-- `patch` meets its contract: a wrong page, and its triples.
use Rattle.load_naming.proofs.Fields.{field_in, field_lent, start_low, line_next}
use Rattle.load_held.proofs.Answers.{asked_did_all, rests-did_all}
use Rattle.load_step.proofs.Basics.{patch_page, patch_bad, patch_items, patched_did}
use Rattle.load_step.proofs.patch.Goals as goal

pub word-requires : goal.word-requires
word-requires c = field_lent (field_in c.requires.line c.field_at-f.ensures)

pub blamed-requires : goal.blamed-requires
blamed-requires c = start_low (field_in c.requires.line c.field_at-f.ensures)

pub take_triples-faults-requires : goal.take_triples-faults-requires
take_triples-faults-requires c = record { fitting = c.requires.fitting; within = (line_next c.requires.line c.field_at-f.ensures).within; short = c.requires.line.short; aimed = patch_page _ _ c.read_page.ensures c.in-Some.is; room = c.requires.room }

pub returns-in_default : goal.returns-in_default
returns-in_default c = asked_did_all _ _ _ _ (patch_bad _ c.requires.line c.field_at-f.ensures c.word.ensures c.read_page.ensures c.in_default.is c.blamed.ensures) (rests-did_all _ _ _ _ c.answered.ensures _)

pub returns : goal.returns
returns c = asked_did_all _ _ _ _ (patch_items _ c.requires.line c.field_at-f.ensures c.word.ensures c.read_page.ensures c.in-Some.is) (patched_did _ _ _ _ _ _ c.take_triples-faults.ensures)
