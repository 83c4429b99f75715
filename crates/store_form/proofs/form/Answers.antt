-- `form` meets its contract: the first search that finds a place tells the form.
use Rattle.store_code.proofs.Found.{place_at, place_nowhere}
use Rattle.store_form.proofs.Laws.{bad_first, repeated_first, entry_first, none_first}
use Rattle.store_form.proofs.form.Goals as goal

pub returns-in-Some : goal.returns-in-Some
returns-in-Some c = bad_first _ _ (place_at c.bad_slot.ensures c.in-Some.is)

pub repeated_slot-requires : goal.repeated_slot-requires
repeated_slot-requires c = record { fitting = c.requires; store_value = place_nowhere c.bad_slot.ensures c.in_default.is }

pub returns-in-Some-repeated_slot : goal.returns-in-Some-repeated_slot
returns-in-Some-repeated_slot c =
    repeated_first _ _
    (place_nowhere c.bad_slot.ensures c.in_default.is)
    (place_at c.repeated_slot.ensures c.in-Some-repeated_slot.is)

pub returns-in-Some-bad_entry : goal.returns-in-Some-bad_entry
returns-in-Some-bad_entry c =
    entry_first _ _
    (place_nowhere c.bad_slot.ensures c.in_default.is)
    (place_nowhere c.repeated_slot.ensures c.in_default-repeated_slot.is)
    (place_at c.bad_entry.ensures c.in-Some-bad_entry.is)

pub returns : goal.returns
returns c =
    none_first _ _
    (place_nowhere c.bad_slot.ensures c.in_default.is)
    (place_nowhere c.repeated_slot.ensures c.in_default-repeated_slot.is)
    (place_nowhere c.bad_entry.ensures c.in_default-bad_entry.is)
