-- What holds of a change that is read: its values fit their bits, and are in range; and how many slots of a kind are used. For laws and for
-- private functions; no promise names these.
-- Assumes nothing.
use Rattle.std.specs.Prelude.{true, List, ◌≡◌, ℕ, ◌≤◌, ◌<◌}
use Rattle.cells.specs.Search.{count_from}
use Rattle.value.specs.Time.{time_max}
use Rattle.store_desk.specs.declared.Desk.{Desk}
use Rattle.store_desk.specs.declared.Kind.{Kind}
use Rattle.store_desk.specs.Name.{first_slot, slot_count, ok_number}
use Rattle.store_head.specs.Fits.{whole_span, fraction_span, time_span}
use Rattle.store.specs.declared.Edit.{Edit}
use Rattle.store.specs.declared.Edit.TheVariants.{Up, Down, Followon, Link, Level}
use Rattle.store.specs.Slots.{head_at, is_used}

-- the values of a change fit their bits in the head
abbrev pub EditFits : Edit → Type 0
EditFits (Up fade delay) = (fade < time_span) × (delay < time_span)
EditFits (Down fade delay) = (fade < time_span) × (delay < time_span)
EditFits (Followon time) = time < time_span
EditFits (Link whole fraction) = (whole < whole_span) × (fraction < fraction_span)
EditFits (Level channel v) = Unit

-- the values of a change are in range: times at most 999:999:999.9, a link 0.1 to 999.9
abbrev pub InTime : Edit → Type 0
InTime (Up fade delay) = (fade ≤ time_max) × (delay ≤ time_max)
InTime (Down fade delay) = (fade ≤ time_max) × (delay ≤ time_max)
InTime (Followon time) = time ≤ time_max
InTime (Link whole fraction) = ok_number whole fraction ≡ true
InTime (Level channel v) = Unit

-- how many slots of a kind are used
unfoldable pub used_count : Desk → List ℕ → Kind → ℕ
used_count d s k = count_from (λ i. is_used (head_at d s i)) (slot_count d k) (first_slot d k)
