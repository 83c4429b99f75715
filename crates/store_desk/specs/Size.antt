-- The size of a desk: the ranges of its limits, and the lengths that follow from them (paper 01, "The size of a desk", "The store").
-- Assumes nothing.
use Rattle.std.specs.Prelude.{Bool, true, ◌&&◌, List, [], ◌∷◌, ℕ, ◌+◌, ◌*◌, ◌≤◌, leb}
use Rattle.store_desk.specs.declared.Desk.{Desk}

-- ---- ranges ("The size of a desk")

-- every test of the list
unfoldable pub all_of : List Bool → Bool
all_of [] = true
all_of (b ∷ bs) = b && all_of bs

-- x is lo to hi, as a fact and as a test
abbrev pub Within : ℕ → ℕ → ℕ → Type 0
Within lo x hi = (lo ≤ x) × (x ≤ hi)

abbrev pub is_within : ℕ → ℕ → ℕ → Bool
is_within lo x hi = leb lo x && leb x hi

abbrev pub most_channels : ℕ
most_channels = 512

abbrev pub most_dimmers : ℕ
most_dimmers = 512

abbrev pub most_cues : ℕ
most_cues = 600

abbrev pub most_groups : ℕ
most_groups = 200

abbrev pub most_subs : ℕ
most_subs = 96

-- pages of cues, and of groups
abbrev pub most_pages : ℕ
most_pages = 63

abbrev pub most_sub_pages : ℕ
most_sub_pages = 8

abbrev pub most_patch_pages : ℕ
most_patch_pages = 4

-- every limit is in its range, in the order of the paper's table
pub record InRange (d : Desk) : Type 0 where
  pub channels : Within 1 d.channels most_channels
  pub dimmers : Within 1 d.dimmers most_dimmers
  pub cues : Within 1 d.cues most_cues
  pub groups : Within 0 d.groups most_groups
  pub subs : Within 0 d.subs most_subs
  pub cue_pages_of : Within 1 d.cue_pages most_pages
  pub group_pages_of : Within 1 d.group_pages most_pages
  pub sub_pages_of : Within 1 d.sub_pages most_sub_pages
  pub patch_pages_of : Within 1 d.patch_pages most_patch_pages

-- the same as a test (R2 is its failure)
unfoldable pub in_range_of : Desk → Bool
in_range_of d =
    all_of
    (is_within 1 d.channels most_channels
    ∷ is_within 1 d.dimmers most_dimmers
    ∷ is_within 1 d.cues most_cues
    ∷ is_within 0 d.groups most_groups
    ∷ is_within 0 d.subs most_subs
    ∷ is_within 1 d.cue_pages most_pages
    ∷ is_within 1 d.group_pages most_pages
    ∷ is_within 1 d.sub_pages most_sub_pages
    ∷ is_within 1 d.patch_pages most_patch_pages
    ∷ [])

-- the house small desk
abbrev pub house : Desk
house =
    record {
      channels = 96;
      dimmers = 192;
      cues = 200;
      groups = 40;
      subs = 24;
      cue_pages = 2;
      group_pages = 1;
      sub_pages = 2;
      patch_pages = 1;
    }

-- ---- lengths ("The store")

-- bytes of a slot's head, and of a patch entry
abbrev pub head_length : ℕ
head_length = 24

abbrev pub entry_length_of : ℕ
entry_length_of = 3

-- bytes of one channel's level
unfoldable pub level_width : Desk → ℕ
level_width d = 1

-- bytes of a slot's levels, channel 1 first
unfoldable pub levels_length : Desk → ℕ
levels_length d = d.channels * level_width d

unfoldable pub slot_length : Desk → ℕ
slot_length d = head_length + levels_length d

-- submaster slots: page by page, by number
unfoldable pub sub_slots : Desk → ℕ
sub_slots d = d.subs * d.sub_pages

-- the slots of all kinds
unfoldable pub slots_of : Desk → ℕ
slots_of d = d.cues + d.groups + sub_slots d

-- where the patch entries begin, and how many there are: page by page, by dimmer
unfoldable pub patch_start : Desk → ℕ
patch_start d = slots_of d * slot_length d

unfoldable pub entries_of : Desk → ℕ
entries_of d = d.dimmers * d.patch_pages

-- the bytes that a store of this desk needs
unfoldable pub store_length : Desk → ℕ
store_length d = patch_start d + entries_of d * entry_length_of
