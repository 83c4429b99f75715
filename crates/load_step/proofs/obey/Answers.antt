-- `obey` meets its contract, by what the keyword begins.
use mathlib.Core.Path.{sym, ◌∙◌}
use Rattle.load_held.proofs.Answers.{asked_all}
use Rattle.load_step.proofs.Basics.{family_primary, family_secondary, family_basic}
use Rattle.load_step.proofs.Booked.{primary_booked, secondary_booked, basic_booked}
use Rattle.load_step.proofs.obey.Goals as goal

pub returns-in-Primary : goal.returns-in-Primary
returns-in-Primary g c = record { faults_after = family_primary _ _ _ _ _ _ c.family_of.ensures _ _ c.in-Primary.is c.primary-s.ensures; book_after = primary_booked g.N.Naming.laws _ _ _ c.family_of.ensures _ _ c.in-Primary.is c.note_primary.ensures }

pub returns-in-Augments : goal.returns-in-Augments
returns-in-Augments g c = record { faults_after = family_secondary _ _ _ _ _ c.family_of.ensures (sym (g.N.Naming.laws.is_anew _)) _ _ c.requires.held_ready c.requires.fitting c.in-Augments.is c.augmented-did.ensures.faults_after c.with_held.ensures; book_after = secondary_booked g.N.Naming.laws _ _ _ c.family_of.ensures c.in-Augments.is c.augmented-did.ensures.book_after c.with_held.ensures }

pub returns-in-Basic : goal.returns-in-Basic
returns-in-Basic g c = record { faults_after = asked_all _ _ _ _ (family_basic _ _ _ _ _ _ c.family_of.ensures (c.ANEW.ensures ∙ sym (g.N.Naming.laws.is_anew _)) c.in-Basic.is) c.obey_basic.ensures; book_after = basic_booked g.N.Naming.laws _ _ _ c.family_of.ensures _ _ c.in-Basic.is }
