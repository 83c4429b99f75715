-- The lent bytes as slots and patch entries (paper 01, "The store": cue slots, then group slots, then submaster slots, then patch
-- entries; a slot is 24 head bytes and C level bytes).
-- Assumes nothing.
use Rattle.std.specs.Prelude.{Bool, ◌&&◌, List, ℕ, ◌+◌, ◌-◌, ◌*◌, eqb, get_or, set, take, drop, None, Option, Some}
use Rattle.cells.specs.Put.{put}
use Rattle.cells.specs.Search.{Found, at, nowhere, first_from}
use Rattle.store_desk.specs.declared.Desk.{Desk}
use Rattle.store_desk.specs.declared.Key.{Key}
use Rattle.store_desk.specs.Size.{head_length, entry_length_of, level_width, slot_length, patch_start}
use Rattle.store_desk.specs.Name.{Name, eq_key, first_slot, slot_count}
use Rattle.store_head.specs.declared.Head.{Head}
use Rattle.store_head.specs.Layout.{decode_head}

-- slot i, and the store with another in its place
unfoldable pub slot_at : Desk → List ℕ → ℕ → List ℕ
slot_at d s i = take (slot_length d) (drop (i * slot_length d) s)

unfoldable pub put_slot : Desk → List ℕ → ℕ → List ℕ → List ℕ
put_slot d s i x = put s (i * slot_length d) x

-- patch entry i, and the store with another in its place
unfoldable pub entry_at : Desk → List ℕ → ℕ → List ℕ
entry_at d s i = take entry_length_of (drop (patch_start d + i * entry_length_of) s)

unfoldable pub put_entry : Desk → List ℕ → ℕ → List ℕ → List ℕ
put_entry d s i x = put s (patch_start d + i * entry_length_of) x

-- a slot is its head and its levels, channel 1 first
unfoldable pub head_at : Desk → List ℕ → ℕ → Head
head_at d s i = decode_head (slot_at d s i)

unfoldable pub levels_at : Desk → List ℕ → ℕ → List ℕ
levels_at d s i = drop head_length (slot_at d s i)

-- where a channel's level stands among the levels, and in a slot
abbrev pub level_start : Desk → ℕ → ℕ
level_start d channel = (channel - 1) * level_width d

unfoldable pub level_place : Desk → ℕ → ℕ
level_place d channel = head_length + level_start d channel

-- the level of a channel, and the levels with another in its place
abbrev pub level_at : Desk → List ℕ → ℕ → ℕ
level_at d ls channel = get_or ls (level_start d channel) 0

abbrev pub put_level : Desk → List ℕ → ℕ → ℕ → List ℕ
put_level d ls channel v = set ls (level_start d channel) v

-- a memory's key stands in its head
abbrev pub key_of : Head → Key
key_of h = record { page = h.page; whole = h.whole; fraction = h.fraction }

abbrev pub is_used : Head → Bool
is_used h = eqb h.used 1

-- slot i is used, under this key
unfoldable pub holds_at : Desk → List ℕ → Key → ℕ → Bool
holds_at d s key i = is_used (head_at d s i) && eq_key (key_of (head_at d s i)) key

-- the slot that keeps the memory of a name, among those of its kind
unfoldable pub find : Desk → List ℕ → Name → Found
find d s n = first_from (holds_at d s n.key) (slot_count d n.kind) (first_slot d n.kind)

-- by cases on what a search found
unfoldable pub on_found : {A : Type 0} → Found → (ℕ → A) → A → A
on_found (at i) f a = f i
on_found nowhere f a = a

-- the same as the code answers it
unfoldable pub place_of : Found → Option ℕ
place_of (at i) = Some i
place_of nowhere = None
