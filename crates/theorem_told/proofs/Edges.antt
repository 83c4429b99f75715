-- The proved edges hold, each by computation of the whole load.
-- Assumes nothing.
use mathlib.Core.Path.{◌≡◌, refl}
use mathlib.Core.List.{map}
use Rattle.cells.specs.Put.{put}
use Rattle.cells.specs.Scan.{span}
use Rattle.cells.specs.Search.{first_from}
use Rattle.store_desk.specs.Name.{first_slot, slot_count, pages_of, supported, eq_key}
use Rattle.store_desk.specs.Size.{all_of, level_width, levels_length, slot_length, sub_slots, slots_of, patch_start, entries_of, store_length}
use Rattle.store_head.specs.Layout.{encode_head, decode_head}
use Rattle.store_head.specs.Pack.{total, packed, unpacked}
use Rattle.store.specs.Change.{lowest_unused, new_seat, seat, blank_head, blank_slot, started, edit_head, with_head, edit_slot, edit_at, edited}
use Rattle.store.specs.Form.{has_times, has_link}
use Rattle.store.specs.Slots.{slot_at, put_slot, head_at, levels_at, level_place, holds_at, find, on_found}
use Rattle.store.specs.View.{memory_at, memory_of}
use Rattle.text_records.specs.Cleaning.{is_high, is_control, is_mark, kept_of, column_of, has}
use Rattle.text_records.specs.Stream.{is_end, terminated, pieces_in, pieces_of, bare, records_of}
use Rattle.text_fields.specs.Keywords.{upper, same_text, same_word_of, meaning_of, keyword_rows, keyword_of}
use Rattle.text_fields.specs.Words.{is_delimiter, words_in, words_of, fields_of}
use Rattle.value.specs.Integer.{digit_of, digits_from, run_of, integer_of}
use Rattle.value.specs.Number.{numbered_of, number_of}
use Rattle.value.specs.Parts.{cut_at, decimals_of}
use Rattle.value.specs.Time.{bounded_of, part_of, join_of, later_of, clock_of, time_of}
use Rattle.value_level.specs.Level.{hex_byte_of, hex_of, level_of}
use Rattle.load.specs.Condition.{is_error}
use Rattle.load.specs.Item.{ranged_of as rangedOf₂, on_ranged, on_level, pair_of, pairs_of, faults_of, done, all_done}
use Rattle.load.specs.Run.{stops, run_from, load_of, all_reports, class_of, eq_class, tally_of, last_of, closing_of, report_word, totals_of}
use Rattle.load.specs.Ask.{numbered_by, numeral_of, page_at, named_by, named_of, named_ask, primary_ask, augments, on_time, delay_of, fade_of, times_of}
use Rattle.load.specs.Ask.{change_ask, obeyed_ask, secondary_ask, family_of, basic_ask, family_ask, fields_ask, ask_of}
use Rattle.load.specs.Step.{opened_by, acted, record_step, ignored_in, outcome_faults, reported_of}
use Rattle.theorem_told.specs.Edges.{edges, wanted_of, kept_by_of, edge_loaded, answer_of}

pub edges_hold : map answer_of edges ≡ map wanted_of edges
unfolding put span first_from first_slot slot_count pages_of supported eq_key all_of level_width levels_length slot_length sub_slots slots_of patch_start entries_of store_length encode_head decode_head total packed unpacked lowest_unused new_seat seat blank_head blank_slot started edit_head with_head edit_slot edit_at edited has_times has_link slot_at put_slot head_at levels_at level_place holds_at find on_found memory_at memory_of is_high is_control is_mark kept_of column_of has is_end terminated pieces_in pieces_of bare records_of upper same_text same_word_of meaning_of keyword_rows keyword_of is_delimiter words_in words_of fields_of digit_of digits_from run_of integer_of numbered_of number_of cut_at decimals_of bounded_of part_of join_of later_of clock_of time_of hex_byte_of hex_of level_of is_error rangedOf₂ on_ranged on_level pair_of pairs_of faults_of done all_done stops run_from load_of all_reports class_of eq_class tally_of last_of closing_of report_word totals_of numbered_by numeral_of page_at named_by named_of named_ask primary_ask augments on_time delay_of fade_of times_of change_ask obeyed_ask secondary_ask family_ask family_of basic_ask fields_ask ask_of opened_by acted record_step ignored_in outcome_faults reported_of kept_by_of edge_loaded answer_of
edges_hold = refl
