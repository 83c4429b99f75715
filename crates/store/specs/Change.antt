-- The operations on a store: start a memory, change it, patch a dimmer, clear, empty (paper 01, "The store"; "Keywords and
-- conditions", Primaries, CHAN, UP, DOWN, FOLLOWON, LINK, PATCH, CLEAR).
-- Assumes nothing.
use Rattle.std.specs.Prelude.{Bool, cond, not, ◌&&◌, ◌||◌, List, [], ◌∷◌, ◌++◌, ℕ, zero, suc, ◌+◌, ◌-◌, ◌*◌, eqb, take, drop, replicate}
use Rattle.cells.specs.Put.{put}
use Rattle.cells.specs.Search.{Found, at, first_from}
use Rattle.store_desk.specs.declared.Desk.{Desk}
use Rattle.store_desk.specs.declared.Key.{Key}
use Rattle.store_desk.specs.declared.Kind.{Kind}
use Rattle.store_desk.specs.declared.Kind.TheVariants.{Cue, Group, Sub}
use Rattle.store_desk.specs.Size.{head_length, entry_length_of, slot_length, levels_length, patch_start, entries_of, store_length}
use Rattle.store_desk.specs.Name.{Name, eq_kind, first_slot, slot_count, sub_slot, entry_of}
use Rattle.store_head.specs.declared.Head.{Head}
use Rattle.store_head.specs.declared.Patch.{Patch}
use Rattle.store_head.specs.Layout.{link_at, up_at, down_at, followon_at, head_values, head_from, decode_head, encode_head, encode_patch}
use Rattle.store.specs.declared.Edit.{Edit}
use Rattle.store.specs.declared.Edit.TheVariants.{Up, Down, Followon, Link, Level}
use Rattle.store.specs.Slots.{slot_at, put_slot, put_entry, head_at, put_level, is_used, find, on_found}

-- ---- start: a new cue or group takes the lowest unused slot, a submaster its own; a kept memory stays in its slot

unfoldable pub lowest_unused : Desk → List ℕ → Kind → Found
lowest_unused d s k = first_from (λ i. not (is_used (head_at d s i))) (slot_count d k) (first_slot d k)

unfoldable pub new_seat : Desk → List ℕ → Kind → Key → Found
new_seat d s Cue key = lowest_unused d s Cue
new_seat d s Group key = lowest_unused d s Group
new_seat d s Sub key = at (sub_slot d key)

-- where the memory of a name goes; nowhere if there is no room
unfoldable pub seat : Desk → List ℕ → Name → Found
seat d s n = on_found (find d s n) (λ i. at i) (new_seat d s n.kind n.key)

-- afresh: no levels, times or link
unfoldable pub blank_head : Key → Head
blank_head key = head_from (1 ∷ key.page ∷ key.whole ∷ key.fraction ∷ [])

unfoldable pub blank_slot : Desk → Key → List ℕ
blank_slot d key = encode_head (blank_head key) ++ replicate (levels_length d) 0

unfoldable pub started : Desk → List ℕ → Name → List ℕ
started d s n = on_found (seat d s n) (λ i. put_slot d s i (blank_slot d n.key)) s

-- ---- a change of one memory

-- the fields of the head that it sets, from one on; all others stay
unfoldable pub edit_head : Edit → Head → Head
edit_head (Up fade delay) h = head_from (put (head_values h) up_at (1 ∷ fade ∷ delay ∷ []))
edit_head (Down fade delay) h = head_from (put (head_values h) down_at (1 ∷ fade ∷ delay ∷ []))
edit_head (Followon time) h = head_from (put (head_values h) followon_at (1 ∷ time ∷ []))
edit_head (Link whole fraction) h = head_from (put (head_values h) link_at (1 ∷ whole ∷ fraction ∷ []))
edit_head (Level channel v) h = h

unfoldable pub with_head : Edit → List ℕ → List ℕ
with_head e x = put x 0 (encode_head (edit_head e (decode_head x)))

-- a slot's bytes after a change
unfoldable pub edit_slot : Desk → Edit → List ℕ → List ℕ
edit_slot d (Up fade delay) x = with_head (Up fade delay) x
edit_slot d (Down fade delay) x = with_head (Down fade delay) x
edit_slot d (Followon time) x = with_head (Followon time) x
edit_slot d (Link whole fraction) x = with_head (Link whole fraction) x
edit_slot d (Level channel v) x = take head_length x ++ put_level d (drop head_length x) channel v

unfoldable pub edit_at : Desk → List ℕ → ℕ → Edit → List ℕ
edit_at d s i e = put_slot d s i (edit_slot d e (slot_at d s i))

-- the memory of a name, changed; a store that keeps none stays as it is
unfoldable pub edited : Desk → List ℕ → Name → Edit → List ℕ
edited d s n e = on_found (find d s n) (λ i. edit_at d s i e) s

-- ---- a dimmer has one channel, the last given

abbrev pub patch_entry : ℕ → ℕ → Patch
patch_entry channel level = record { channel = channel; level = level; rest = 0 }

unfoldable pub patched : Desk → List ℕ → ℕ → ℕ → ℕ → ℕ → List ℕ
patched d s page dimmer channel level = put_entry d s (entry_of d page dimmer) (encode_patch (patch_entry channel level))

-- ---- CLEAR: a page's number, or 0 for every page

abbrev pub every_page : ℕ
every_page = 0

abbrev pub on_page : ℕ → ℕ → Bool
on_page p page = eqb p every_page || eqb p page

-- the memories that a CLEAR of a kind removes
unfoldable pub hits : Kind → ℕ → Name → Bool
hits k p n = eq_kind k n.kind && on_page p n.key.page

unfoldable pub hits_at : Desk → List ℕ → ℕ → ℕ → Bool
hits_at d s p i = is_used (head_at d s i) && on_page p (head_at d s i).page

-- of n slots from i on: those that are hit become zero
unfoldable pub clear_from : Desk → ℕ → ℕ → ℕ → List ℕ → List ℕ
clear_from d p zero i s = s
clear_from d p (suc n) i s = clear_from d p n (suc i) (cond (hits_at d s p i) (put_slot d s i (replicate (slot_length d) 0)) s)

unfoldable pub cleared : Desk → List ℕ → Kind → ℕ → List ℕ
cleared d s k p = clear_from d p (slot_count d k) (first_slot d k) s

-- the bytes of one patch page
unfoldable pub patch_page_length : Desk → ℕ
patch_page_length d = d.dimmers * entry_length_of

unfoldable pub cleared_patch : Desk → List ℕ → ℕ → List ℕ
cleared_patch d s p =
    cond (eqb p every_page) (put s (patch_start d) (replicate (entries_of d * entry_length_of) 0))
    (put s (patch_start d + (p - 1) * patch_page_length d) (replicate (patch_page_length d) 0))

-- ---- emptying

unfoldable pub emptied : Desk → List ℕ → List ℕ
emptied d s = put s 0 (replicate (store_length d) 0)
