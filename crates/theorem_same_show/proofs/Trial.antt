-- The theorem on one show, so that its premise is not empty: two cues, a group, a submaster and a patched dimmer on the small desk of the
-- store's trial. What it is written as, by computation; and that it reads back.
-- Assumes nothing.
use mathlib.Core.Path.{◌≡◌, refl}
use mathlib.Core.Bool.{Bool, true}
use mathlib.Core.List.{List, [], ◌∷◌, ◌++◌}
use Prim.Native.Nat.{ℕ, ◌≤◌}
use native.Mathlib.Omega.{arith}
use lib.Dec.{ltb}
use lib.ListN.{length, get_or, get_or-eq_default}
use borrow.Author.Tests.{ltb-true}
use Rattle.cells.specs.Text.{bytes}
use Rattle.cells.proofs.Split.{by_lt}
use Rattle.cells.proofs.Scan.{all_below}
use Rattle.store_desk.specs.declared.Kind.TheVariants.{Cue, Group, Sub}
use Rattle.store_desk.proofs.Size.{in_range}
use Rattle.cells.specs.Put.{put}
use Rattle.cells.specs.Scan.{span}
use Rattle.cells.specs.Search.{first_from, all_from}
use Rattle.store_desk.specs.Size.{all_of, in_range_of, level_width, levels_length, slot_length, sub_slots, slots_of, patch_start, entries_of, store_length}
use Rattle.store_desk.specs.Name.{Name, first_slot, slot_count, pages_of, kind_at, supported, eq_kind, eq_key, eq_name, less_key, ok_number, ok_sub, ok_within, ok_page, ok_name, sub_slot, entry_of}
use Rattle.store_head.specs.Pack.{Bytes, total, packed, unpacked}
use Rattle.store_head.specs.Layout.{encode_head, decode_head, encode_patch, decode_patch}
use Rattle.store.specs.declared.Edit.TheVariants.{Down, Level}
use Rattle.store.specs.Slots.{slot_at, put_slot, entry_at, put_entry, head_at, levels_at, level_place, holds_at, find, on_found}
use Rattle.store.specs.View.{memory_at, patched_to}
use Rattle.store.specs.Change.{lowest_unused, new_seat, seat, blank_head, blank_slot, started, edit_head, with_head, edit_slot, edit_at, edited, patched, hits_at, clear_from, cleared, patch_page_length, cleared_patch}
use Rattle.store.specs.Form.{has_times, has_link, is_zero, link_fits, values_fit, place_fits, slot_fits, patch_fits, entry_fits, shares, bad_slot, repeats, repeated_slot, bad_entry, form_by, form_of, is_good, good_form}
use Rattle.store.specs.Order.{used_from, insert_slot, sort_slots, in_order}
use Rattle.store.specs.Good.{Ready}
use Rattle.store.proofs.Form.{good_sound}
use Rattle.store.proofs.Trial.{small, shown}
use Rattle.text_records.specs.Stream.{is_end, terminated, pieces_in, pieces_of, bare, records_of}
use Rattle.text_records.specs.Cleaning.{is_high, is_control, is_mark, kept_of, has}
use Rattle.text_fields.specs.Words.{is_delimiter, words_in, words_of, fields_of}
use Rattle.text_fields.specs.Keywords.{upper, same_text, same_word_of, meaning_of, keyword_rows, item_rows, keyword_of, item_of}
use Rattle.value.specs.Integer.{digit_of, digits_from, run_of, integer_of}
use Rattle.value.specs.Parts.{cut_at, decimals_of}
use Rattle.value.specs.Number.{numbered_of, number_of}
use Rattle.value.specs.Time.{bounded_of as rangedTime, part_of, join_of, later_of, clock_of, time_of}
use Rattle.value.specs.Field.{versioned_of, version_of, paged_of, page_of}
use Rattle.value_level.specs.Level.{hex_byte_of, hex_of, level_of}
use Rattle.load.specs.Item.{ranged_of, on_ranged, on_level, pair_of, triple_of, pairs_of, triples_of, faults_of, done, all_done}
use Rattle.load.specs.Ask.{numbered_by, sub_by, numeral_of, page_at, named_by, named_of, augments, on_time, delay_of, fade_of, link_by, times_of}
use Rattle.load.specs.Step.{opened_by}
use Rattle.load.specs.Ask.{table_pages, ask_of, fields_ask, family_of, basic_ask, family_ask, ident_outcome, item_ask, all_ask, tables_ask, wipes_ask, all_wipes, kind_wipes, dimmer_wipes, triples_ask, primary_ask, named_ask, secondary_ask, obeyed_ask, change_ask}
use Rattle.load.specs.Step.{settle_by, acted, wiped, record_step, ignored_in, outcome_faults, reported_of}
use Rattle.load.specs.Run.{stops, run_from, load_of}
use Rattle.value_written.specs.Text.{digit_char, digits_on, digit_count_from, digit_count, integer_text, fraction_text, number_text, level_text, part_text, whole_in, left_by, clock_text, time_text}
use Rattle.save_lines.specs.Line.{joined, patch_text, patch_line, kind_text, primary_text, delay_text, time_line, link_line, head_lines, lit_from, pair_text, pairs_text, chan_lines_in, chan_lines}
use Rattle.save.specs.Lines.{dimmer_lines, page_lines, memory_lines, slot_lines, lines_of, stream_of}
use Rattle.theorem_same_show.specs.Show.{ReadBack}
use Rattle.theorem_same_show.proofs.Theorem.{written_reads_back}

abbrev group : Name
group = record { kind = Group; key = record { page = 1; whole = 1; fraction = 0 } }

abbrev sub : Name
sub = record { kind = Sub; key = record { page = 1; whole = 1; fraction = 0 } }

-- the store's trial, with group 1 at channel 1 full, and submaster 1 with DOWN 1:30 after the longest delay
abbrev pub trial : List ℕ
trial = edited small (started small (edited small (started small shown group) group (Level 1 255)) sub) sub (Down 900 36_573_399)

pub trial_lines : lines_of small trial
    ≡ bytes "IDENT 3:0"
    ∷ bytes "CLEAR ALL"
    ∷ bytes "PATCH 1 1<2@HFF"
    ∷ bytes "CUE 2.5 1"
    ∷ bytes "UP 3"
    ∷ bytes "LINK 9"
    ∷ bytes "CHAN 2@H07"
    ∷ bytes "CUE 9 2"
    ∷ bytes "GROUP 1 1"
    ∷ bytes "CHAN 1@HFF"
    ∷ bytes "SUB 1 1"
    ∷ bytes "DOWN 1:30 999:999:999.9"
    ∷ bytes "ENDDATA"
    ∷ []
unfolding used_from insert_slot sort_slots in_order less_key levels_at memory_at patched_to digit_char digits_on digit_count_from digit_count integer_text fraction_text number_text level_text part_text whole_in left_by clock_text time_text patch_text patch_line dimmer_lines page_lines kind_text primary_text delay_text time_line link_line head_lines lit_from pair_text pairs_text chan_lines_in chan_lines memory_lines slot_lines lines_of lowest_unused new_seat seat blank_head blank_slot started edit_head with_head edit_slot edit_at edited patched slot_at put_slot entry_at put_entry head_at level_place holds_at find on_found first_from put all_of eq_key level_width levels_length slot_length sub_slots slots_of patch_start entry_of first_slot slot_count sub_slot total packed unpacked encode_head decode_head encode_patch decode_patch
trial_lines = refl

trial_form : good_form small trial ≡ true
unfolding good_form is_good form_of form_by bad_slot repeats repeated_slot bad_entry all_from shares eq_name eq_kind slot_fits entry_fits values_fit link_fits has_times has_link is_zero place_fits patch_fits ok_name ok_page ok_within ok_number ok_sub supported pages_of kind_at entries_of lowest_unused new_seat seat blank_head blank_slot started edit_head with_head edit_slot edit_at edited patched slot_at put_slot entry_at put_entry head_at level_place holds_at find on_found first_from put all_of eq_key level_width levels_length slot_length sub_slots slots_of patch_start entry_of first_slot slot_count sub_slot total packed unpacked encode_head decode_head encode_patch decode_patch
trial_form = refl

is_byte : ℕ → Bool
is_byte c = ltb c 256

all_bytes : (s : List ℕ) → span is_byte s ≡ length s → Bytes s
unfolding is_byte
all_bytes s e i =
    by_lt i (length s)
    (λ l. ltb-true (get_or s i 0) 256 (all_below is_byte s e i l))
    (λ l. let z : get_or s i 0 ≡ 0 = get_or-eq_default s 0 l in omega arith)

trial_bytes : span is_byte trial ≡ length trial
unfolding span is_byte lowest_unused new_seat seat blank_head blank_slot started edit_head with_head edit_slot edit_at edited patched slot_at put_slot entry_at put_entry head_at level_place holds_at find on_found first_from put all_of eq_key level_width levels_length slot_length sub_slots slots_of patch_start entry_of first_slot slot_count sub_slot total packed unpacked encode_head decode_head encode_patch decode_patch
trial_bytes = refl

trial_long : store_length small ≤ length trial
unfolding store_length entries_of lowest_unused new_seat seat blank_head blank_slot started edit_head with_head edit_slot edit_at edited patched slot_at put_slot entry_at put_entry head_at level_place holds_at find on_found first_from put all_of eq_key level_width levels_length slot_length sub_slots slots_of patch_start entry_of first_slot slot_count sub_slot total packed unpacked encode_head decode_head encode_patch decode_patch
trial_long = let z : 110 ≤ 111 = omega arith in z

small_range : in_range_of small ≡ true
unfolding in_range_of all_of
small_range = refl

trial_ready : Ready small trial
trial_ready = record { range = in_range small small_range; long = trial_long; form = good_sound small trial trial_form }

-- read into itself, say
pub trial_back : ReadBack small trial trial (load_of small trial (stream_of small trial))
trial_back = written_reads_back small trial trial trial_ready (all_bytes trial trial_bytes) trial_ready

-- the same show, and other bytes: cue 2.5 stood in the second slot, and comes first
pub trial_moved : in_order small trial Cue ++ in_order small (load_of small trial (stream_of small trial)).store Cue ≡ 1 ∷ 0 ∷ 0 ∷ 1 ∷ []
unfolding stream_of joined load_of run_from stops record_step acted ask_of fields_ask family_ask family_of basic_ask ident_outcome item_ask all_ask tables_ask wipes_ask settle_by table_pages all_wipes kind_wipes dimmer_wipes wiped triples_ask primary_ask named_ask opened_by named_of named_by numeral_of numbered_by sub_by page_at secondary_ask augments obeyed_ask change_ask times_of fade_of on_time delay_of link_by reported_of ignored_in outcome_faults ranged_of on_ranged on_level pair_of triple_of pairs_of triples_of faults_of done all_done records_of pieces_of pieces_in bare is_end terminated kept_of is_high is_control is_mark has fields_of words_of words_in is_delimiter keyword_of meaning_of keyword_rows item_of item_rows same_word_of same_text upper version_of versioned_of page_of paged_of integer_of run_of digits_from digit_of number_of numbered_of cut_at decimals_of rangedTime part_of join_of later_of clock_of time_of level_of hex_of hex_byte_of clear_from cleared hits_at cleared_patch patch_page_length entries_of supported pages_of has_times has_link span used_from insert_slot sort_slots in_order less_key levels_at memory_at patched_to digit_char digits_on digit_count_from digit_count integer_text fraction_text number_text level_text part_text whole_in left_by clock_text time_text patch_text patch_line dimmer_lines page_lines kind_text primary_text delay_text time_line link_line head_lines lit_from pair_text pairs_text chan_lines_in chan_lines memory_lines slot_lines lines_of lowest_unused new_seat seat blank_head blank_slot started edit_head with_head edit_slot edit_at edited patched slot_at put_slot entry_at put_entry head_at level_place holds_at find on_found first_from put all_of eq_key level_width levels_length slot_length sub_slots slots_of patch_start entry_of first_slot slot_count sub_slot total packed unpacked encode_head decode_head encode_patch decode_patch
trial_moved = refl
