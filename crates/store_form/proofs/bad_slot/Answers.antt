-- `bad_slot` meets its contract: of all slots the first that does not fit.
use mathlib.Core.Bool.{Bool, true, false, not}
use Prim.Native.Nat.{ℕ}
use mathlib.Core.Path.{◌≡◌, ap, ◌∙◌}
use Rattle.std.proofs.Common.{rules, tests}
use Rattle.std.proofs.lemmas.Iterator.{first_from_Range}
use Rattle.store.specs.Form.{slot_fits}
use Rattle.store.specs.Slots.{place_of}
use Rattle.store_code.proofs.Ranged.{IsFirstIn, range_first}
use Rattle.store_form.proofs.Laws.{slots_start}
use Rattle.store_form.proofs.bad_slot.Goals as goal

pub returns : goal.returns
returns c =
    let p : ℕ → Bool = λ i. not (slot_fits c.args.desk c.args.store.now i) in
    let r : IsFirstIn p 0 c.slots.result c.find.result =
    first_from_Range _ _ _ _ (λ i. p i ≡ true) (λ i. p i ≡ false) c.find.ensures.ran
    (λ x q k. search (rules, tests))
    (λ x q k. (search rules, search (rules, tests)))
    in
    range_first p _ _ _ r ∙ ap place_of (slots_start _ _ c.slots.ensures)
