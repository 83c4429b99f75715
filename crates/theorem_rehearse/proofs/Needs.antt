-- Each premise of demand 3 is needed, and they can hold together with memories kept. What each desk comes to is by computation of the
-- loads; a memory or a dimmer on which the two differ then refutes what is to follow. The desks are in range: by arithmetic.
-- Assumes nothing.
use mathlib.Core.Path.{◌≡◌, refl, sym, ap, ◌∙◌}
use mathlib.Core.Bool.{Bool, true, false, false≢true}
use mathlib.Core.List.{List}
use Prim.Native.Nat.{ℕ, zero, ◌≤◌}
use native.Mathlib.Omega.{arith}
use lib.ListN.{length, length-replicate}
use Rattle.cells.specs.Put.{put}
use Rattle.cells.specs.Scan.{span}
use Rattle.cells.specs.Search.{first_from}
use Rattle.cells.proofs.Split.{clash, and_right, and_true}
use Rattle.store_desk.specs.declared.Desk.{Desk}
use Rattle.store_desk.specs.Name.{Name, first_slot, slot_count, pages_of, supported, eq_key, ok_number, ok_within, ok_page, ok_name, entry_of}
use Rattle.store_desk.specs.Size.{Within, InRange, all_of, level_width, levels_length, slot_length, sub_slots, slots_of, patch_start, entries_of, store_length}
use Rattle.store_head.specs.declared.Patch.{Patch}
use Rattle.store_head.specs.Layout.{encode_head, decode_head, encode_patch, decode_patch}
use Rattle.store_head.specs.Pack.{total, packed, unpacked}
use Rattle.store.specs.Change.{lowest_unused, new_seat, seat, blank_head, blank_slot, started, edit_slot, edit_at, edited, patched, emptied}
use Rattle.store.specs.Slots.{slot_at, put_slot, entry_at, put_entry, head_at, levels_at, level_place, holds_at, find, on_found}
use Rattle.store.specs.View.{Memory, Kept, absent, kept, memory_at, memory_of, patched_to}
use Rattle.text_records.specs.Cleaning.{is_high, is_control, is_mark, kept_of, has}
use Rattle.text_records.specs.Stream.{is_end, terminated, pieces_in, pieces_of, bare, records_of}
use Rattle.text_fields.specs.Keywords.{upper, same_text, same_word_of, meaning_of, keyword_rows, keyword_of}
use Rattle.text_fields.specs.Words.{is_delimiter, words_in, words_of, fields_of}
use Rattle.value.specs.Field.{paged_of, page_of}
use Rattle.value.specs.Integer.{digit_of, digits_from, run_of, integer_of}
use Rattle.value.specs.Number.{numbered_of, number_of}
use Rattle.value.specs.Parts.{cut_at, decimals_of}
use Rattle.value_level.specs.Level.{percent_byte, percent_of, hex_byte_of, hex_of, level_of}
use Rattle.load.specs.Condition.{full_of}
use Rattle.load.specs.Item.{ranged_of, on_ranged, on_level, pair_of, triple_of, pairs_of, triples_of, faults_of, done, all_done}
use Rattle.load.specs.Run.{stops, run_from, load_of, all_reports}
use Rattle.load.specs.Ask.{numbered_by, numeral_of, page_at, named_by, named_of, named_ask, primary_ask}
use Rattle.load.specs.Ask.{augments, obeyed_ask, secondary_ask, triples_ask, family_of, basic_ask, family_ask, fields_ask, ask_of}
use Rattle.load.specs.Step.{opened_by, acted, record_step, ignored_in, outcome_faults, reported_of}
use Rattle.theorem_rehearse.specs.Rehearse.{Rehearsal, loaded, has_full, is_kept}
use Rattle.theorem_rehearse.specs.Needs.{sized, lent, Trial, on_small, on_large, Carried, Exact, Alike}
use Rattle.theorem_rehearse.specs.Needs.{larger_full, smaller_full, more_channels, neither_larger, all_hold, cue, Needs}

-- ---- what a desk comes to: whether it reported 0021 or 0022, whether it keeps a cue, and the channel of a dimmer on patch page 1
record Seen : Type 0 where
  full : Bool
  keeps : Bool
  channel : ℕ

abbrev seen : Bool → Bool → ℕ → Seen
seen full keeps channel = record { full = full; keeps = keeps; channel = channel }

abbrev seen_by_of : Desk → List ℕ → Name → ℕ → Seen
seen_by_of d stream n q =
    let x = loaded d (lent d) stream in
    seen (has_full (all_reports x)) (is_kept (memory_of d x.store n)) (patched_to d x.store 1 q).channel

abbrev Both : Trial → Name → ℕ → Seen → Seen → Type 0
Both t n q x X = (seen_by_of t.small t.stream n q ≡ x) × (seen_by_of t.large t.stream n q ≡ X)

facts : Both larger_full (cue 1 3) 1 (seen false true 0) (seen true false 0)
    × Both smaller_full (cue 1 2) 1 (seen true false 0) (seen false true 0)
    × Both more_channels (cue 1 1) 1 (seen false false 1) (seen false false 5)
    × Both neither_larger (cue 2 1) 2 (seen false true 1) (seen false false 0)
    × Both all_hold (cue 1 1) 1 (seen false true 3) (seen false true 3)
unfolding put span first_from first_slot slot_count pages_of supported eq_key entry_of all_of level_width levels_length slot_length sub_slots slots_of patch_start entries_of store_length encode_head decode_head encode_patch decode_patch total packed unpacked lowest_unused new_seat seat blank_head blank_slot started edit_slot edit_at edited patched emptied slot_at put_slot entry_at put_entry head_at levels_at level_place holds_at find on_found memory_at memory_of patched_to is_high is_control is_mark kept_of has is_end terminated pieces_in pieces_of bare records_of upper same_text same_word_of meaning_of keyword_rows keyword_of is_delimiter words_in words_of fields_of paged_of page_of digit_of digits_from run_of integer_of numbered_of number_of cut_at decimals_of percent_byte percent_of hex_byte_of hex_of level_of full_of ranged_of on_ranged on_level pair_of triple_of pairs_of triples_of faults_of done all_done stops run_from load_of all_reports numbered_by numeral_of page_at named_by named_of named_ask primary_ask augments obeyed_ask secondary_ask triples_ask family_ask family_of basic_ask fields_ask ask_of opened_by acted record_step ignored_in outcome_faults reported_of has_full is_kept
facts = ((refl, refl), (refl, refl), (refl, refl), (refl, refl), (refl, refl))

within_limits : ok_name smaller_full.small (cue 1 2) ≡ true
unfolding slot_count pages_of supported ok_number ok_within ok_page ok_name all_of
within_limits = refl

-- ---- what refutes a conclusion
some_kept : (k : Kept) → is_kept k ≡ true → (m : Memory) × (k ≡ kept m)
unfolding is_kept
some_kept absent e = absurd (false≢true e)
some_kept (kept m) e = (m, refl)

module _ (t : Trial) (n : Name) where
  abbrev Small : Bool
  Small = is_kept (memory_of t.small (on_small t).store n)

  abbrev Large : Bool
  Large = is_kept (memory_of t.large (on_large t).store n)

  -- a memory that the smaller alone keeps
  not_carried : Small ≡ true → Large ≡ false → Carried t → ⊥
  unfolding is_kept
  not_carried e f c = let k = some_kept (memory_of t.small (on_small t).store n) e in clash (ap is_kept (c n k.0 k.1).1) f

  not_exact : Small ≡ true → Large ≡ false → Exact t → ⊥
  not_exact e f c = clash (and_right (ok_name t.small n) Large (sym (c n) ∙ e)) f

  -- one within its limits that the larger alone keeps
  not_all : ok_name t.small n ≡ true → Small ≡ false → Large ≡ true → Exact t → ⊥
  not_all o e f c = clash (c n ∙ and_true (ok_name t.small n) Large o f) e

-- a dimmer that the two patch to different channels
not_alike : (t : Trial) (q : ℕ) → Within 1 1 t.small.patch_pages → Within 1 q t.small.dimmers → {a A : ℕ}
    → (patched_to t.small (on_small t).store 1 q).channel ≡ a → (patched_to t.large (on_large t).store 1 q).channel ≡ A → (a ≡ A → ⊥) → Alike t → ⊥
not_alike t q p w e f g c = g (sym e ∙ ap (λ (x : Patch). x.channel) (c 1 q p w) ∙ f)

-- ---- the desks are those of a rehearsal
in_range : (c q n p : ℕ) → Within 1 c 512 → Within 1 q 512 → Within 1 n 600 → Within 1 p 63 → InRange (sized c q n p)
in_range c q n p hc hq hn hp =
    record {
      channels = hc;
      dimmers = hq;
      cues = hn;
      groups = omega arith;
      subs = omega arith;
      cue_pages_of = hp;
      group_pages_of = omega arith;
      sub_pages_of = omega arith;
      patch_pages_of = omega arith;
    }

long_enough : (d : Desk) → store_length d ≤ length (lent d)
long_enough d = let e = length-replicate (store_length d) (zero) in omega arith

rehearsal : (c q n p C Q N P : ℕ) → Within 1 c C → Within 1 q Q → Within 1 n N → Within 1 p P → C ≤ 512 → Q ≤ 512 → N ≤ 600 → P ≤ 63
    → Rehearsal (sized c q n p) (sized C Q N P) (lent (sized c q n p)) (lent (sized C Q N P))
rehearsal c q n p C Q N P hc hq hn hp mc mq mn mp =
    record {
      small = in_range c q n p (omega arith) (omega arith) (omega arith) (omega arith);
      large = in_range C Q N P (omega arith) (omega arith) (omega arith) (omega arith);
      larger =
          record {
            channels = hc.1;
            dimmers = hq.1;
            cues = hn.1;
            groups = omega arith;
            subs = omega arith;
            cue_pages_of = hp.1;
            group_pages_of = omega arith;
            sub_pages_of = omega arith;
            patch_pages_of = omega arith;
          };
      long = long_enough (sized c q n p);
      longer = long_enough (sized C Q N P);
    }

-- ---- all of it
module _ {x y : Seen} (e : x ≡ y) where
  fullness : x.full ≡ y.full
  fullness = ap (λ (z : Seen). z.full) e

  keeping : x.keeps ≡ y.keeps
  keeping = ap (λ (z : Seen). z.keeps) e

  patching : x.channel ≡ y.channel
  patching = ap (λ (z : Seen). z.channel) e

pub needs : Needs
needs =
    let a = facts.0 in
    let b = facts.1 in
    let c = facts.2 in
    let n = facts.3 in
    let h = facts.4 in
    record {
      larger_room = (
        rehearsal 4 4 2 1 4 4 2 2 (omega arith) (omega arith) (omega arith) (omega arith) (omega arith) (omega arith) (omega arith) (omega arith),
        fullness a.0,
        refl,
        not_carried larger_full (cue 1 3) (keeping a.0) (keeping a.1),
        not_exact larger_full (cue 1 3) (keeping a.0) (keeping a.1),
      );
      smaller_room = (
        rehearsal 4 4 1 1 4 4 2 1 (omega arith) (omega arith) (omega arith) (omega arith) (omega arith) (omega arith) (omega arith) (omega arith),
        fullness b.1,
        refl,
        not_all smaller_full (cue 1 2) within_limits (keeping b.0) (keeping b.1),
      );
      same_channels = (
        rehearsal 4 4 1 1 5 4 1 1 (omega arith) (omega arith) (omega arith) (omega arith) (omega arith) (omega arith) (omega arith) (omega arith),
        fullness c.1,
        fullness c.0,
        not_alike more_channels 1 (omega arith) (omega arith) (patching c.0) (patching c.1) (omega arith),
      );
      larger = (
        record {
          small = in_range 4 2 1 2 (omega arith) (omega arith) (omega arith) (omega arith);
          large = in_range 4 1 2 1 (omega arith) (omega arith) (omega arith) (omega arith);
          second = λ l. let m : 2 ≤ 1 = l.dimmers in omega arith;
          first = λ l. let m : 2 ≤ 1 = l.cues in omega arith;
          long = long_enough neither_larger.small;
          longer = long_enough neither_larger.large;
        },
        fullness n.1,
        fullness n.0,
        refl,
        not_carried neither_larger (cue 2 1) (keeping n.0) (keeping n.1),
        not_exact neither_larger (cue 2 1) (keeping n.0) (keeping n.1),
        not_alike neither_larger 2 (omega arith) (omega arith) (patching n.0) (patching n.1) (omega arith),
      );
      together = (
        rehearsal 4 4 2 1 4 5 3 2 (omega arith) (omega arith) (omega arith) (omega arith) (omega arith) (omega arith) (omega arith) (omega arith),
        fullness h.1,
        fullness h.0,
        refl,
        (keeping h.0, patching h.0),
        (keeping h.1, patching h.1),
      );
    }
