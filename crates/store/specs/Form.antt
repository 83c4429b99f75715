-- Good form (paper 01, "The store"), and where a store is out of it (paper 02, C-11: R4a, R4b, R4c).
-- Assumes nothing.
use Rattle.std.specs.Prelude.{Bool, true, false, cond, not, ◌&&◌, List, [], ◌∷◌, ℕ, eqb, leb, Err, Ok, Result}
use Rattle.cells.specs.Search.{Found, at, nowhere, first_from, all_from}
use Rattle.value.specs.Time.{time_max}
use Rattle.store_desk.specs.declared.Desk.{Desk}
use Rattle.store_desk.specs.declared.Key.{Key}
use Rattle.store_desk.specs.declared.Kind.{Kind}
use Rattle.store_desk.specs.declared.Kind.TheVariants.{Cue, Group, Sub}
use Rattle.store_desk.specs.Size.{slots_of, entries_of}
use Rattle.store_desk.specs.Name.{Name, kind_at, eq_name, ok_number, ok_name, sub_slot}
use Rattle.store_head.specs.declared.Head.{Head}
use Rattle.store_head.specs.declared.Patch.{Patch}
use Rattle.store_head.specs.Layout.{decode_patch}
use Rattle.store.specs.Slots.{slot_at, entry_at, head_at, key_of, is_used}
use Rattle.store.specs.declared.FormError.{FormError}
use Rattle.store.specs.declared.FormError.TheVariants.{BadSlot, Repeated, BadEntry}

-- ---- which values a kind can have (§6.3: CHAN, UP and DOWN, FOLLOWON and LINK)

unfoldable pub has_times : Kind → Bool
has_times Cue = true
has_times Group = false
has_times Sub = true

unfoldable pub has_link : Kind → Bool
has_link Cue = true
has_link Group = false
has_link Sub = false

-- ---- a slot by itself

unfoldable pub is_zero : List ℕ → Bool
is_zero [] = true
is_zero (b ∷ bs) = let r = is_zero bs in cond (eqb b 0) r false

-- an absent value is all zero; one that is there is in its range, and of a kind that can have it
abbrev pub time_fits : Bool → ℕ → ℕ → Bool
time_fits can present time = cond (eqb present 0) (eqb time 0) (can && leb time time_max)

unfoldable pub link_fits : Bool → Head → Bool
link_fits can h =
    cond (eqb h.link 0) (eqb h.link_whole 0 && eqb h.link_fraction 0)
    (can && ok_number h.link_whole h.link_fraction)

unfoldable pub values_fit : Kind → Head → Bool
values_fit k h =
    time_fits (has_times k) h.up h.up_fade
    && time_fits (has_times k) h.up h.up_delay
    && time_fits (has_times k) h.down h.down_fade
    && time_fits (has_times k) h.down h.down_delay
    && time_fits (has_link k) h.followon h.followon_time
    && link_fits (has_link k) h
    && eqb h.rest 0

-- a submaster's head agrees with its place
unfoldable pub place_fits : Desk → Kind → ℕ → Key → Bool
place_fits d Cue i key = true
place_fits d Group i key = true
place_fits d Sub i key = eqb i (sub_slot d key)

abbrev pub name_at : Desk → List ℕ → ℕ → Name
name_at d s i = record { kind = kind_at d i; key = key_of (head_at d s i) }

-- a used slot by its head: a name that the desk can have, at its place, and values in range
abbrev pub used_fits : Desk → ℕ → Head → Bool
used_fits d i h =
    ok_name d (record { kind = kind_at d i; key = key_of h })
    && place_fits d (kind_at d i) i (key_of h)
    && values_fit (kind_at d i) h

-- an unused slot is all zero
unfoldable pub slot_fits : Desk → List ℕ → ℕ → Bool
slot_fits d s i = cond (is_used (head_at d s i)) (used_fits d i (head_at d s i)) (is_zero (slot_at d s i))

-- ---- two slots that share a memory's name: both are used, of one kind, with one key

unfoldable pub shares : Desk → List ℕ → ℕ → ℕ → Bool
shares d s i j = is_used (head_at d s i) && is_used (head_at d s j) && eq_name (name_at d s i) (name_at d s j)

-- ---- a patch entry: an unpatched one is all zero, a patched one has a channel of the desk's

unfoldable pub patch_fits : Desk → Patch → Bool
patch_fits d p = eqb p.rest 0 && cond (eqb p.channel 0) (eqb p.level 0) (leb p.channel d.channels)

unfoldable pub entry_fits : Desk → List ℕ → ℕ → Bool
entry_fits d s i = patch_fits d (decode_patch (entry_at d s i))

-- ---- the test (R4a, R4b, R4c): tested in that order over the whole store, and each finds the first place; places are counted from 0

-- a slot out of form by itself
unfoldable pub bad_slot : Desk → List ℕ → Found
bad_slot d s = first_from (λ i. not (slot_fits d s i)) (slots_of d) 0

-- a slot that repeats an earlier one
unfoldable pub repeats : Desk → List ℕ → ℕ → Bool
repeats d s i = not (all_from (λ j. not (shares d s i j)) i 0)

unfoldable pub repeated_slot : Desk → List ℕ → Found
repeated_slot d s = first_from (repeats d s) (slots_of d) 0

-- a patch entry out of form
unfoldable pub bad_entry : Desk → List ℕ → Found
bad_entry d s = first_from (λ i. not (entry_fits d s i)) (entries_of d) 0

unfoldable pub form_by : Found → Found → Found → Result Unit FormError
form_by (at i) b e = Err (BadSlot i)
form_by nowhere (at i) e = Err (Repeated i)
form_by nowhere nowhere (at i) = Err (BadEntry i)
form_by nowhere nowhere nowhere = Ok tt

unfoldable pub form_of : Desk → List ℕ → Result Unit FormError
form_of d s = form_by (bad_slot d s) (repeated_slot d s) (bad_entry d s)

-- none of the three
unfoldable pub is_good : Result Unit FormError → Bool
is_good (Ok _) = true
is_good (Err (BadSlot i)) = false
is_good (Err (Repeated i)) = false
is_good (Err (BadEntry i)) = false

unfoldable pub good_form : Desk → List ℕ → Bool
good_form d s = is_good (form_of d s)
