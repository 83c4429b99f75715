-- `sub_slot` meets its contract: the place is among the slots.
use Rattle.store_desk.specs.declared.Kind.TheVariants.{Sub}
use Rattle.store_desk.proofs.Size.{slots_le}
use Rattle.store_desk.proofs.Name.{sub_inside, kind_end}
use Rattle.store_desk.specs.Name.{sub_slot}
use native.Mathlib.Omega.{arith}
use mathlib.Core.Path.{refl}
use Rattle.store_desk.proofs.sub_slot.Goals as goal

pub overflow_add-result-2 : goal.overflow_add-result-2
unfolding sub_slot
overflow_add-result-2 c =
    let a = c.args in
    let h = sub_inside a.desk a.key c.requires.within.0 c.requires.within.1 in
    let g = kind_end a.desk Sub in
    let l = slots_le a.desk c.requires.in_range in
    omega (arith, c.first_slot.ensures)

pub returns : goal.returns
unfolding sub_slot
returns c = rw c.first_slot.ensures refl
