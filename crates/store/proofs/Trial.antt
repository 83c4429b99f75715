-- The definitions tried on a small desk, by computation: two channels, two dimmers, two cues, one group, one submaster.
-- Assumes nothing.
use Rattle.std.specs.Prelude.{Err, Ok}
use mathlib.Core.Path.{◌≡◌, refl}
use mathlib.Core.List.{List, [], ◌∷◌, ◌++◌}
use Prim.Native.Nat.{ℕ}
use lib.ListN.{take, set, replicate}
use Rattle.cells.specs.Put.{put}
use Rattle.cells.specs.Search.{first_from, all_from}
use Rattle.store_desk.specs.declared.Desk.{Desk}
use Rattle.store_desk.specs.declared.Kind.TheVariants.{Cue}
use Rattle.store_desk.specs.Size.{all_of, level_width, levels_length, slot_length, sub_slots, slots_of, patch_start, entries_of}
use Rattle.store_desk.specs.Name.{Name, first_slot, slot_count, pages_of, kind_at, supported, eq_kind, eq_key, eq_name, less_key, ok_number, ok_sub, ok_within, ok_page, ok_name, sub_slot, entry_of}
use Rattle.store_head.specs.Pack.{total, packed, unpacked}
use Rattle.store_head.specs.Layout.{encode_head, decode_head, encode_patch, decode_patch}
use Rattle.store.specs.declared.Edit.TheVariants.{Up, Link, Level}
use Rattle.store.specs.Slots.{slot_at, put_slot, entry_at, put_entry, head_at, level_place, holds_at, find, on_found}
use Rattle.store.specs.Change.{lowest_unused, new_seat, seat, blank_head, blank_slot, started, edit_head, with_head, edit_slot, edit_at, edited, patched, hits_at, clear_from, cleared}
use Rattle.store.specs.Form.{has_times, has_link, is_zero, link_fits, values_fit, place_fits, slot_fits, patch_fits, entry_fits, shares, bad_slot, repeats, repeated_slot, bad_entry, form_by, form_of}
use Rattle.store.specs.Order.{used_from, insert_slot, sort_slots, in_order}
use Rattle.store.specs.declared.FormError.TheVariants.{BadSlot, Repeated, BadEntry}

abbrev pub small : Desk
small =
    record {
      channels = 2;
      dimmers = 2;
      cues = 2;
      groups = 1;
      subs = 1;
      cue_pages = 2;
      group_pages = 1;
      sub_pages = 1;
      patch_pages = 1;
    }

abbrev pub cue : ℕ → ℕ → ℕ → Name
cue page whole fraction = record { kind = Cue; key = record { page = page; whole = whole; fraction = fraction } }

-- cue 9 on page 2, then cue 2.5 on page 1 with UP 3, LINK 9 and channel 2 at 7, then dimmer 2 patched to channel 1 at 255; one byte past
-- the 110 needed
abbrev pub shown : List ℕ
shown =
    patched small
    (edited small
    (edited small
    (edited small (started small (started small (replicate 111 0) (cue 2 9 0)) (cue 1 2 5)) (cue 1 2 5) (Up 30 0))
    (cue 1 2 5)
    (Link 9 0))
    (cue 1 2 5)
    (Level 2 7))
    1
    2
    1
    255

pub shown_bytes : shown
    ≡ 132 ∷ 4 ∷ 128 ∷ 0 ∷ 0 ∷ 0 ∷ 0 ∷ 0 ∷ 0 ∷ 0 ∷ 0 ∷ 0 ∷ 0 ∷ 0 ∷ 0 ∷ 0 ∷ 0 ∷ 0 ∷ 0 ∷ 0 ∷ 0 ∷ 0 ∷ 0 ∷ 0 ∷ 0 ∷ 0 ∷ 130 ∷ 1 ∷ 44 ∷ 9 ∷ 8 ∷ 0 ∷ 0 ∷ 60 ∷ 0 ∷ 0 ∷ 0 ∷ 0 ∷ 0 ∷ 0 ∷ 0 ∷ 0 ∷ 0 ∷ 0 ∷ 0 ∷ 0 ∷ 0 ∷ 0 ∷ 0 ∷ 0 ∷ 0 ∷ 7 ∷ 0 ∷ 0 ∷ 0 ∷ 0 ∷ 0 ∷ 0 ∷ 0 ∷ 0 ∷ 0 ∷ 0 ∷ 0 ∷ 0 ∷ 0 ∷ 0 ∷ 0 ∷ 0 ∷ 0 ∷ 0 ∷ 0 ∷ 0 ∷ 0 ∷ 0 ∷ 0 ∷ 0 ∷ 0 ∷ 0 ∷ 0 ∷ 0 ∷ 0 ∷ 0 ∷ 0 ∷ 0 ∷ 0 ∷ 0 ∷ 0 ∷ 0 ∷ 0 ∷ 0 ∷ 0 ∷ 0 ∷ 0 ∷ 0 ∷ 0 ∷ 0 ∷ 0 ∷ 0 ∷ 0 ∷ 0 ∷ 0 ∷ 0 ∷ 0 ∷ 0 ∷ 0 ∷ 0 ∷ 0 ∷ 0 ∷ 127 ∷ 192 ∷ 0 ∷ []
unfolding started seat new_seat lowest_unused blank_slot blank_head edited edit_at edit_slot with_head edit_head patched slot_at put_slot put_entry head_at level_place holds_at find on_found first_from put all_of eq_key level_width levels_length slot_length sub_slots slots_of patch_start entry_of first_slot slot_count total packed unpacked encode_head decode_head encode_patch
shown_bytes = refl

-- the form of a store: the bytes above are in form, and with a byte changed they are not: bits out of range in slot 0, slot 1 as slot 0, the
-- second patch entry, slot 2 that is not used. Where more than one is so, a slot by itself comes before a repeat, and that before an entry.
pub trial_form : form_of small shown
    ∷ form_of small (set shown 110 9)
    ∷ form_of small (set shown 23 1)
    ∷ form_of small (put shown 26 (take 26 shown))
    ∷ form_of small (set shown 109 1)
    ∷ form_of small (set shown 60 1)
    ∷ form_of small (set (put shown 26 (take 26 shown)) 60 1)
    ∷ form_of small (set (put shown 26 (take 26 shown)) 109 1)
    ∷ []
    ≡ (Ok tt) ∷ (Ok tt) ∷ Err (BadSlot 0) ∷ Err (Repeated 1) ∷ Err (BadEntry 1) ∷ Err (BadSlot 2) ∷ Err (BadSlot 2) ∷ Err (Repeated 1) ∷ []
unfolding form_of form_by bad_slot repeats repeated_slot bad_entry all_from shares eq_name eq_kind slot_fits entry_fits values_fit link_fits has_times has_link is_zero place_fits patch_fits ok_name ok_page ok_within ok_number ok_sub supported pages_of kind_at entries_of entry_at decode_patch less_key started seat new_seat lowest_unused blank_slot blank_head edited edit_at edit_slot with_head edit_head patched slot_at put_slot put_entry head_at level_place holds_at find on_found first_from put all_of eq_key level_width levels_length slot_length sub_slots slots_of patch_start entry_of first_slot slot_count sub_slot total packed unpacked encode_head decode_head encode_patch
trial_form = refl

-- in order: page 1 comes first, though it came second; cleared of page 1, the other is left
pub trial_order : in_order small shown Cue ++ in_order small (cleared small shown Cue 1) Cue ≡ 1 ∷ 0 ∷ 0 ∷ []
unfolding in_order sort_slots insert_slot used_from less_key cleared clear_from hits_at started seat new_seat lowest_unused blank_slot blank_head edited edit_at edit_slot with_head edit_head patched slot_at put_slot put_entry head_at level_place holds_at find on_found first_from put all_of eq_key level_width levels_length slot_length sub_slots slots_of patch_start entry_of first_slot slot_count total packed unpacked encode_head decode_head encode_patch
trial_order = refl
