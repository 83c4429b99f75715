-- `formed` meets its contract: the store's form decides, and the slot or entry that it names is one of the desk's, so that its place from 1 fits.
use Rattle.std.specs.Prelude.{Err, Ok, Result}
use mathlib.Core.Path.{ap, ◌∙◌}
use native.Mathlib.Omega.{arith}
use Rattle.show.proofs.Laws.{formed, form_inside}
use Rattle.show.specs.Calls.{form_admission}
use Rattle.store.specs.declared.FormError.{FormError}
use Rattle.store.specs.declared.FormError.TheVariants.{BadSlot, Repeated, BadEntry}
use Rattle.show.proofs.formed.Goals as goal

abbrev failed : FormError → Result Unit FormError
failed e = Err e

pub overflow_add-result : goal.overflow_add-result
overflow_add-result c = omega (arith, form_inside _ _ (Err (BadSlot _)) c.requires c.form.ensures (c.in-Err-BadSlot.is ∙ ap failed c.in-Err-BadSlot.field-0-is))

pub overflow_add-result-in-Err-Repeated : goal.overflow_add-result-in-Err-Repeated
overflow_add-result-in-Err-Repeated c = omega (arith, form_inside _ _ (Err (Repeated _)) c.requires c.form.ensures (c.in-Err-Repeated.is ∙ ap failed c.in-Err-Repeated.field-0-is))

pub overflow_add-result-in-Err-BadEntry : goal.overflow_add-result-in-Err-BadEntry
overflow_add-result-in-Err-BadEntry c = omega (arith, form_inside _ _ (Err (BadEntry _)) c.requires c.form.ensures (c.in-Err-BadEntry.is ∙ ap failed c.in-Err-BadEntry.field-0-is))

pub returns-in-Ok : goal.returns-in-Ok
unfolding form_admission
returns-in-Ok c = formed _ _ (Ok tt) c.form.ensures c.in-Ok.is

pub returns-in-Err-BadSlot : goal.returns-in-Err-BadSlot
unfolding form_admission
returns-in-Err-BadSlot c = formed _ _ (Err (BadSlot _)) c.form.ensures (c.in-Err-BadSlot.is ∙ ap failed c.in-Err-BadSlot.field-0-is)

pub returns-in-Err-Repeated : goal.returns-in-Err-Repeated
unfolding form_admission
returns-in-Err-Repeated c = formed _ _ (Err (Repeated _)) c.form.ensures (c.in-Err-Repeated.is ∙ ap failed c.in-Err-Repeated.field-0-is)

pub returns-in-Err-BadEntry : goal.returns-in-Err-BadEntry
unfolding form_admission
returns-in-Err-BadEntry c = formed _ _ (Err (BadEntry _)) c.form.ensures (c.in-Err-BadEntry.is ∙ ap failed c.in-Err-BadEntry.field-0-is)
