-- The edges of a load with translation hold, each by computation of the whole load.
-- Assumes nothing.
use mathlib.Core.Path.{◌≡◌, refl}
use mathlib.Core.List.{map}
use Rattle.cells.specs.Put.{put}
use Rattle.cells.specs.Scan.{span}
use Rattle.cells.specs.Search.{first_from}
use Rattle.store_desk.specs.Name.{first_slot, slot_count, pages_of, supported, eq_key, sub_slot}
use Rattle.store_desk.specs.Size.{all_of, level_width, levels_length, slot_length, sub_slots, slots_of, patch_start, entries_of, store_length}
use Rattle.store_head.specs.Layout.{encode_head, decode_head}
use Rattle.store_head.specs.Pack.{total, packed, unpacked}
use Rattle.store.specs.Change.{lowest_unused, new_seat, seat, blank_head, blank_slot, started, edit_head, with_head, edit_slot, edit_at, hits_at, clear_from, cleared}
use Rattle.store.specs.Form.{has_link}
use Rattle.store.specs.Slots.{slot_at, put_slot, head_at, levels_at, holds_at, find, on_found}
use Rattle.store.specs.View.{memory_at, memory_of}
use Rattle.text_records.specs.Cleaning.{is_high, is_control, is_mark, kept_of, column_of, has}
use Rattle.text_records.specs.Stream.{is_end, terminated, pieces_in, pieces_of, bare, records_of}
use Rattle.text_fields.specs.Keywords.{upper, same_text, same_word_of, meaning_of, keyword_rows, keyword_of, item_rows, item_of}
use Rattle.text_fields.specs.Words.{is_delimiter, words_in, words_of, fields_of}
use Rattle.value.specs.Integer.{digit_of, digits_from, run_of, integer_of}
use Rattle.value.specs.Number.{borne_by, borne_of}
use Rattle.value.specs.Parts.{cut_at, decimals_of}
use Rattle.load.specs.Condition.{is_error, full_of}
use Rattle.load.specs.Run.{stops, all_reports, class_of, eq_class, tally_of, last_of, closing_of, report_word, totals_of}
use Rattle.load.specs.Ask.{page_at, named_ask, augments, secondary_ask, paged_ask, kind_ask, item_ask, family_of, basic_ask}
use Rattle.load.specs.Step.{settle_by, slot_by, wiped, opened_by, acted, ignored_in, outcome_faults, reported_of}
use Rattle.load.specs.Anew.{last_number, next_key, accepted_of, one_more, beyond_of, next_named, anew_primary_ask, is_link, links_in, is_clear, anew_family_ask, family_ask_in, fields_ask_in, ask_in}
use Rattle.load.specs.Anew.{is_obeyed, family_heard, fields_heard, heard_in, numbered}
use Rattle.load.specs.Translated.{step_in, run_in, notes_in, asked_at, asked_by, is_accepted_cue, bornes, last_bearer, link_at, has_asked, links_from, linked, translated_of}
use Rattle.theorem_translated.specs.Edges.{edges, wanted_of, link_by, edge_translated, answer_of}

pub translated_edges : map answer_of edges ≡ map wanted_of edges
unfolding put span first_from first_slot slot_count pages_of supported eq_key sub_slot all_of level_width levels_length slot_length sub_slots slots_of patch_start entries_of store_length encode_head decode_head total packed unpacked lowest_unused new_seat seat blank_head blank_slot started edit_head with_head edit_slot edit_at hits_at clear_from cleared has_link slot_at put_slot head_at levels_at holds_at find on_found memory_at memory_of is_high is_control is_mark kept_of column_of has is_end terminated pieces_in pieces_of bare records_of upper same_text same_word_of meaning_of keyword_rows keyword_of item_rows item_of is_delimiter words_in words_of fields_of digit_of digits_from run_of integer_of borne_by borne_of cut_at decimals_of is_error full_of stops all_reports class_of eq_class tally_of last_of closing_of report_word totals_of page_at named_ask augments secondary_ask paged_ask kind_ask item_ask family_of basic_ask settle_by slot_by wiped opened_by acted ignored_in outcome_faults reported_of last_number next_key accepted_of one_more beyond_of next_named anew_primary_ask is_link links_in is_clear anew_family_ask family_ask_in fields_ask_in ask_in is_obeyed family_heard fields_heard heard_in numbered step_in run_in notes_in asked_at asked_by is_accepted_cue bornes last_bearer link_at has_asked links_from linked translated_of link_by edge_translated answer_of
translated_edges = refl
