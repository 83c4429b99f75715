-- The kinds of memory, their slots and pages, and what names a memory (paper 01, "The store"; "Keywords and conditions", Primaries).
-- Assumes nothing.
use Rattle.std.specs.Prelude.{Bool, Option, Some, None, cond, [], ◌∷◌, ℕ, ◌+◌, ◌-◌, ◌*◌, ◌<◌, leb, ltb, eqb}
use Rattle.value.specs.Number.{whole_max, fraction_max}
use Rattle.store_head.specs.Fits.{page_span, whole_span, fraction_span}
use Rattle.store_desk.specs.declared.Desk.{Desk}
use Rattle.store_desk.specs.declared.Key.{Key}
use Rattle.store_desk.specs.declared.Kind.{Kind}
use Rattle.store_desk.specs.declared.Kind.TheVariants.{Cue, Group, Sub}
use Rattle.store_desk.specs.Size.{all_of, is_within, sub_slots, slots_of}

-- ---- the slots and pages of a kind: cue slots come first, then group slots, then submaster slots

unfoldable pub first_slot : Desk → Kind → ℕ
first_slot d Cue = 0
first_slot d Group = d.cues
first_slot d Sub = d.cues + d.groups

unfoldable pub slot_count : Desk → Kind → ℕ
slot_count d Cue = d.cues
slot_count d Group = d.groups
slot_count d Sub = sub_slots d

-- the place after the kind's last slot
abbrev pub slots_end : Desk → Kind → ℕ
slots_end d k = first_slot d k + slot_count d k

unfoldable pub pages_of : Desk → Kind → ℕ
pages_of d Cue = d.cue_pages
pages_of d Group = d.group_pages
pages_of d Sub = d.sub_pages

-- the kind of memory that slot i holds
unfoldable pub kind_at : Desk → ℕ → Kind
kind_at d i = cond (ltb i d.cues) Cue (cond (ltb i (d.cues + d.groups)) Group Sub)

-- a desk with no slots of a kind does not support it
unfoldable pub supported : Desk → Kind → Bool
supported d k = ltb 0 (slot_count d k)

-- ---- names

-- what names a memory
pub record Name : Type 0 where
  pub kind : Kind
  pub key : Key

abbrev pub kind_number : Kind → ℕ
kind_number Cue = 0
kind_number Group = 1
kind_number Sub = 2

-- the kind that a number names; any other number names none
abbrev pub kind_by : ℕ → Option Kind
kind_by n = cond (eqb n (kind_number Cue)) (Some Cue) (cond (eqb n (kind_number Group)) (Some Group) (cond (eqb n (kind_number Sub)) (Some Sub) None))

unfoldable pub eq_kind : Kind → Kind → Bool
eq_kind a b = eqb (kind_number a) (kind_number b)

unfoldable pub eq_key : Key → Key → Bool
eq_key a b = all_of (eqb a.page b.page ∷ eqb a.whole b.whole ∷ eqb a.fraction b.fraction ∷ [])

unfoldable pub eq_name : Name → Name → Bool
eq_name a b = all_of (eq_kind a.kind b.kind ∷ eq_key a.key b.key ∷ [])

-- by page, then by number
unfoldable pub less_key : Key → Key → Bool
less_key a b =
    cond (eqb a.page b.page)
    (cond (eqb a.whole b.whole) (ltb a.fraction b.fraction) (ltb a.whole b.whole))
    (ltb a.page b.page)

-- ---- names that can be

-- a cue or group number, and a link, is 0.1 to 999.9 with one fraction digit
unfoldable pub ok_number : ℕ → ℕ → Bool
ok_number whole fraction = all_of (ltb 0 (whole + fraction) ∷ leb whole whole_max ∷ leb fraction fraction_max ∷ [])

-- a submaster is 1 to the highest
unfoldable pub ok_sub : Desk → ℕ → ℕ → Bool
ok_sub d whole fraction = all_of (is_within 1 whole d.subs ∷ eqb fraction 0 ∷ [])

unfoldable pub ok_within : Desk → Kind → Key → Bool
ok_within d Cue key = ok_number key.whole key.fraction
ok_within d Group key = ok_number key.whole key.fraction
ok_within d Sub key = ok_sub d key.whole key.fraction

unfoldable pub ok_page : Desk → Kind → ℕ → Bool
ok_page d k page = is_within 1 page (pages_of d k)

-- the desk can have a memory of this name: its kind is supported, its number and its page are in range
unfoldable pub ok_name : Desk → Name → Bool
ok_name d n = all_of (supported d n.kind ∷ ok_within d n.kind n.key ∷ ok_page d n.kind n.key.page ∷ [])

-- a key fits its bits in a head (law: a name in range does)
pub record KeyFits (k : Key) : Type 0 where
  pub page : k.page < page_span
  pub whole : k.whole < whole_span
  pub fraction : k.fraction < fraction_span

-- ---- places that a desk gives

-- the desk has a slot of this number: slots count from 1 through the whole store, as R4a tells them
unfoldable pub has_slot : Desk → ℕ → Bool
has_slot d n = is_within 1 n (slots_of d)

-- the desk has this dimmer on this patch page
unfoldable pub has_dimmer : Desk → ℕ → ℕ → Bool
has_dimmer d page dimmer = all_of (is_within 1 page d.patch_pages ∷ is_within 1 dimmer d.dimmers ∷ [])

-- a submaster's slot: page by page, by number
unfoldable pub sub_slot : Desk → Key → ℕ
sub_slot d key = first_slot d Sub + ((key.page - 1) * d.subs + (key.whole - 1))

-- a dimmer's patch entry: page by page, by dimmer
unfoldable pub entry_of : Desk → ℕ → ℕ → ℕ
entry_of d page dimmer = (page - 1) * d.dimmers + (dimmer - 1)
