-- `edit_slot` meets its contract, edit by edit: a change of the head, or a level.
use mathlib.Core.Logic.{inl, inr}
use mathlib.Core.Path.{refl, subst}
use Rattle.store_code.proofs.Laws.{change_fits, edit_by, edit_level}
use Rattle.store_code.specs.Fits.{OnDesk}
use Rattle.store.specs.Change.{edit_slot}
use Rattle.store_code.proofs.edit_slot.Goals as goal

pub change_head-requires : goal.change_head-requires
change_head-requires c = let f = change_fits c.args.desk _ _ c.requires.editing.fits c.requires.desk_in_bounds in record { head_fits = f.0; head_length_in_bounds = f.1 }

pub set_level-requires : goal.set_level-requires
set_level-requires c = record { in_range = c.requires.in_range; within = subst (OnDesk c.args.desk) c.in-Level.is c.requires.editing.channel; desk_in_bounds = c.requires.desk_in_bounds }

pub returns-in-Up : goal.returns-in-Up
unfolding edit_slot
returns-in-Up c =
    elim c.in-Up.is [
      | inl (fade, delay, e) ↦ edit_by _ _ e (λ y. refl) c.change_head.ensures
      | inr (inl (fade, delay, e)) ↦ edit_by _ _ e (λ y. refl) c.change_head.ensures
      | inr (inr (inl (time, e))) ↦ edit_by _ _ e (λ y. refl) c.change_head.ensures
      | inr (inr (inr (whole, fraction, e))) ↦ edit_by _ _ e (λ y. refl) c.change_head.ensures
    ]

pub returns-in-Level : goal.returns-in-Level
returns-in-Level c = edit_level _ _ c.in-Level.is c.set_level.ensures
