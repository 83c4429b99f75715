-- The premises of `loads_alike` can be met: `CUE 1`, `LINK 2`, `CUE 2`, `ENDDATA` in an empty store, a link ahead of its cue. By computation of both
-- loads, record by record.
-- Assumes nothing.
use Rattle.std.specs.Prelude.{Ok}
use mathlib.Core.Path.{◌≡◌, refl, subst}
use mathlib.Core.Bool.{false}
use mathlib.Core.List.{List, []}
use Prim.Native.Nat.{ℕ, zero, suc, ◌+◌, ◌<◌}
use native.Mathlib.Omega.{arith}
use lib.ListN.{length, take, replicate}
use Rattle.cells.specs.Put.{put}
use Rattle.cells.specs.Scan.{span}
use Rattle.cells.specs.Search.{first_from}
use Rattle.cells.specs.Text.{bytes}
use Rattle.store_desk.specs.declared.Kind.{Kind}
use Rattle.store_desk.specs.declared.Kind.TheVariants.{Cue}
use Rattle.store_desk.specs.Name.{first_slot, slot_count, pages_of, supported, eq_kind, eq_key}
use Rattle.store_desk.specs.Size.{all_of, level_width, levels_length, slot_length, sub_slots, slots_of, patch_start, entries_of, store_length}
use Rattle.store_head.specs.Layout.{encode_head, decode_head}
use Rattle.store_head.specs.Pack.{total, packed, unpacked}
use Rattle.store.specs.Change.{lowest_unused, new_seat, seat, blank_head, blank_slot, started, edit_head, with_head, edit_slot, edit_at, edited}
use Rattle.store.specs.Form.{has_link}
use Rattle.store.specs.Slots.{slot_at, put_slot, head_at, holds_at, find, on_found}
use Rattle.text_records.specs.Cleaning.{is_high, is_control, is_mark, kept_of, has}
use Rattle.text_records.specs.Stream.{is_end, terminated, pieces_in, pieces_of, bare, records_of}
use Rattle.text_fields.specs.Keywords.{upper, same_text, same_word_of, meaning_of, keyword_rows, keyword_of}
use Rattle.text_fields.specs.Words.{is_delimiter, words_in, words_of, fields_of, head_of, tail_of}
use Rattle.value.specs.declared.Number.{Number}
use Rattle.value.specs.Integer.{digit_of, digits_from, run_of, integer_of}
use Rattle.value.specs.Number.{number, numbered_of, number_of, borne_by, borne_of}
use Rattle.value.specs.Parts.{cut_at, decimals_of}
use Rattle.load.specs.declared.Basic.TheVariants.{Clear}
use Rattle.load.specs.declared.Family.TheVariants.{Primary, Augments, Basic as Basically}
use Rattle.load.specs.declared.Outcome.TheVariants.{Obeyed}
use Rattle.load.specs.declared.Secondary.TheVariants.{Link}
use Rattle.load.specs.Ask.{numbered_by, numeral_of, page_at, named_by, named_of, named_ask, primary_ask, augments, link_by, times_of, change_ask, obeyed_ask, secondary_ask}
use Rattle.load.specs.Ask.{family_of, basic_ask, family_ask, fields_ask, ask_of}
use Rattle.load.specs.Step.{slot_by, opened_by, acted, record_step}
use Rattle.load.specs.Run.{stops, run_from, load_of}
use Rattle.load.specs.Anew.{last_number, next_key, accepted_of, one_more, next_named, anew_primary_ask, is_link, links_in, is_clear, anew_family_ask, family_ask_in, fields_ask_in, ask_in}
use Rattle.load.specs.Anew.{is_obeyed, family_heard, fields_heard, heard_in, numbered}
use Rattle.load.specs.Translated.{step_in, run_in, notes_in, asked_at, asked_by, is_accepted_cue, bornes, last_bearer, has_asked}
use Rattle.theorem_told.specs.Classes.{begins, step_at}
use Rattle.theorem_translated.specs.Numbered.{record_at, is_primary}
use Rattle.theorem_translated.specs.Links.{is_lost}
use Rattle.theorem_translated.specs.Alike.{primaries_in, AsNumbered}
use Rattle.theorem_translated.specs.Edges.{small}

abbrev store : List ℕ
store = replicate (store_length small) 0

abbrev stream : List ℕ
stream = bytes "CUE 1\rLINK 2\rCUE 2\rENDDATA\r"

abbrev Bears : Kind → ℕ → Type 0
Bears k i =
    named_of small k (tail_of (fields_of (record_at stream i)))
    ≡ Ok (record { page = 1; whole = primaries_in k (take i (records_of stream)) + 1; fraction = 0 })

pub alike_trial : AsNumbered small store stream
unfolding put span first_from first_slot slot_count pages_of supported eq_kind eq_key all_of level_width levels_length slot_length sub_slots slots_of patch_start entries_of store_length encode_head decode_head total packed unpacked lowest_unused new_seat seat blank_head blank_slot started edit_head with_head edit_slot edit_at edited has_link slot_at put_slot head_at holds_at find on_found is_high is_control is_mark kept_of has is_end terminated pieces_in pieces_of bare records_of upper same_text same_word_of meaning_of keyword_rows keyword_of is_delimiter words_in words_of fields_of digit_of digits_from run_of integer_of numbered_of number_of borne_by borne_of cut_at decimals_of numbered_by numeral_of page_at named_by named_of named_ask primary_ask augments link_by times_of change_ask obeyed_ask secondary_ask family_of basic_ask family_ask fields_ask ask_of slot_by opened_by acted record_step stops run_from load_of last_number next_key accepted_of one_more next_named anew_primary_ask is_link links_in is_clear anew_family_ask family_ask_in fields_ask_in ask_in is_obeyed family_heard fields_heard heard_in numbered step_in run_in notes_in asked_at asked_by is_accepted_cue bornes last_bearer has_asked is_primary primaries_in
alike_trial =
    record {
      named = λ k i l e. named k i (subst (λ (n : ℕ). i < n) read l) e;
      accepted = λ k i l e. accepted k i (subst (λ (n : ℕ). i < n) read l) e;
      unpaged = λ i l e. unpaged i (subst (λ (n : ℕ). i < n) read l) e;
      numbers = λ i l e. numbers i (subst (λ (n : ℕ). i < n) read l) e;
      borne = borne;
    }
  where
    read : length (load_of small store stream).outcomes ≡ 4
    read = refl

    named : (k : Kind) (i : ℕ) → i < 4 → begins (record_at stream i) ≡ Primary k → Bears k i
    named k zero l e = let q : Cue ≡ k = cc in subst (λ (z : Kind). Bears z 0) q refl
    named k (suc zero) l e = absurd (let z : ◌≡◌ {A = ℕ} 0 1 = cc in omega arith)
    named k (suc (suc zero)) l e = let q : Cue ≡ k = cc in subst (λ (z : Kind). Bears z 2) q refl
    named k (suc (suc (suc zero))) l e = absurd (let z : ◌≡◌ {A = ℕ} 0 1 = cc in omega arith)
    named k (suc (suc (suc (suc i)))) l e = absurd (omega arith)

    accepted : (k : Kind) (i : ℕ) → i < 4 → begins (record_at stream i) ≡ Primary k → (step_at small store stream i).outcome ≡ Obeyed
    accepted k zero l e = refl
    accepted k (suc zero) l e = absurd (let z : ◌≡◌ {A = ℕ} 0 1 = cc in omega arith)
    accepted k (suc (suc zero)) l e = refl
    accepted k (suc (suc (suc zero))) l e = absurd (let z : ◌≡◌ {A = ℕ} 0 1 = cc in omega arith)
    accepted k (suc (suc (suc (suc i)))) l e = absurd (omega arith)

    unpaged : (i : ℕ) → i < 4 → begins (record_at stream i) ≡ Basically Clear → tail_of (tail_of (fields_of (record_at stream i))) ≡ []
    unpaged zero l e = absurd (let z : ◌≡◌ {A = ℕ} 0 1 = cc in omega arith)
    unpaged (suc zero) l e = absurd (let z : ◌≡◌ {A = ℕ} 0 1 = cc in omega arith)
    unpaged (suc (suc zero)) l e = absurd (let z : ◌≡◌ {A = ℕ} 0 1 = cc in omega arith)
    unpaged (suc (suc (suc zero))) l e = absurd (let z : ◌≡◌ {A = ℕ} 0 1 = cc in omega arith)
    unpaged (suc (suc (suc (suc i)))) l e = absurd (omega arith)

    numbers : (i : ℕ) → i < 4 → begins (record_at stream i) ≡ Augments Link
        → (n : Number) × (number_of (head_of (tail_of (fields_of (record_at stream i)))).chars ≡ Ok n)
    numbers zero l e = absurd (let z : ◌≡◌ {A = ℕ} 0 1 = cc in omega arith)
    numbers (suc zero) l e = (number 2 0, refl)
    numbers (suc (suc zero)) l e = absurd (let z : ◌≡◌ {A = ℕ} 0 1 = cc in omega arith)
    numbers (suc (suc (suc zero))) l e = absurd (let z : ◌≡◌ {A = ℕ} 0 1 = cc in omega arith)
    numbers (suc (suc (suc (suc i)))) l e = absurd (omega arith)

    borne : (i : ℕ) → i < 3 → is_lost small store stream i ≡ false
    borne zero l = refl
    borne (suc zero) l = refl
    borne (suc (suc zero)) l = refl
    borne (suc (suc (suc i))) l = absurd (omega arith)
