-- `note_told` meets its contract: R6 tells the length needed, and every other refusal leaves the list.
use Rattle.sphairune.proofs.Laws.{told_length, told_none}
use Rattle.store_desk.specs.declared.Refusal.TheVariants.{R1, R2, R3, R4a, R4b, R4c, R5, R7}
use mathlib.Core.Path.{refl}
use Rattle.sphairune.proofs.note_told.Goals as goal

pub returns-in-R6 : goal.returns-in-R6
returns-in-R6 c = told_length _ c.in-R6.is c.note_length.ensures

pub returns-in-R1 : goal.returns-in-R1
returns-in-R1 c = told_none _ R1 c.in-R1.is refl

pub returns-in-R2 : goal.returns-in-R2
returns-in-R2 c = told_none _ R2 c.in-R2.is refl

pub returns-in-R3 : goal.returns-in-R3
returns-in-R3 c = told_none _ R3 c.in-R3.is refl

pub returns-in-R4a : goal.returns-in-R4a
returns-in-R4a c = told_none _ (R4a _) c.in-R4a.is refl

pub returns-in-R4b : goal.returns-in-R4b
returns-in-R4b c = told_none _ (R4b _) c.in-R4b.is refl

pub returns-in-R4c : goal.returns-in-R4c
returns-in-R4c c = told_none _ (R4c _) c.in-R4c.is refl

pub returns-in-R5 : goal.returns-in-R5
returns-in-R5 c = told_none _ R5 c.in-R5.is refl

pub returns-in-R7 : goal.returns-in-R7
returns-in-R7 c = told_none _ R7 c.in-R7.is refl
