-- A field read in the scan that finds its end: where it ends with its digits, or with its level, these are its value; where it goes on, it is
-- malformed. By the laws of runs of a word's characters, and by cases on the tests.
-- Assumes nothing.
use Rattle.std.specs.Prelude.{Err, None, Ok, Option, Result, Some}
use mathlib.Core.Path.{◌≡◌, refl, sym, ap, ◌∙◌, subst}
use mathlib.Core.Bool.{Bool, true, false, cond, not, ◌||◌}
use mathlib.Core.List.{List}
use Prim.Native.Nat.{ℕ, ◌+◌, ◌-◌, ◌<◌, ◌≤◌}
use native.Mathlib.Omega.{arith}
use lib.Dec.{eqb}
use lib.ListN.{length, get_or, take, drop, length-drop}
use lib.Seq.{drop-drop, get_or-drop}
use borrow.Author.Tests.{eqb-true}
use Rattle.cells.specs.Scan.{span}
use Rattle.cells.specs.Table.{tab}
use Rattle.cells.proofs.Scan.{span_le, span_within, span_past}
use Rattle.cells.proofs.Split.{by_or, cond-true, cond-false}
use Rattle.cells.proofs.Table.{tab_same}
use Rattle.store_desk.specs.Size.{is_within}
use Rattle.text_records.specs.Cleaning.{has}
use Rattle.text_fields.specs.Words.{is_delimiter, is_word}
use Rattle.text_fields.specs.Places.{end_from}
use Rattle.text_fields.specs.Tables.{chars_at, ends_at}
use Rattle.text_fields.proofs.Runs.{ends_none, ends_some, run_end, run_whole, run_ends, run_less}
use Rattle.value.specs.declared.DigitRun.{DigitRun}
use Rattle.value.specs.Integer.{digit_of, integer_of}
use Rattle.value.specs.Digits.{is_digit, digits_at}
use Rattle.value.proofs.Runs.{run_end as digits-end, run_value as digits_value, by_digit, decimal_hex, integer_exact, integer_none, integer_longer}
use Rattle.value_level.specs.declared.Leveling.{Leveling}
use Rattle.value_level.specs.Level.{is_hex_mark, level_of}
use Rattle.value_level.specs.Run.{level_span, leveling_at}
use Rattle.value_level.proofs.Spans.{level_span_le, level_chars, level_longer}
use Rattle.load.specs.Condition.{malformed_integer}
use Rattle.load.specs.Item.{ranged_of}
use Rattle.load_items.specs.declared.Lit.{Lit}
use Rattle.load_items.specs.declared.Read.{Read}
use Rattle.load_items.specs.Each.{wrong_at, ranged_read, ranged_at, lit_by, lit_at, unlit_at}
use Rattle.value_level.specs.declared.LevelError.TheVariants.{NotHex, NotPercent}

-- ---- digits, and the mark of hexadecimal ones, are no delimiters
abbrev plain : ℕ → Bool
plain c = not (is_digit 16 c) || is_word c

hex_word : (c : ℕ) → is_digit 16 c ≡ true → is_word c ≡ true
unfolding tab is_delimiter has digit_of
hex_word c e =
    let h : c < 256 = by_digit 16 c (omega arith) e (λ a b. omega arith) (λ a b. omega arith) (λ a b. omega arith) in
    ap (λ (b : Bool). not b || is_word c) (sym e) ∙ tab_same plain (λ (k : ℕ). true) 256 c false refl h

decimal_word : (c : ℕ) → is_digit 10 c ≡ true → is_word c ≡ true
decimal_word c e = hex_word c (decimal_hex c e)

mark_word : (c : ℕ) → is_hex_mark c ≡ true → is_word c ≡ true
unfolding is_delimiter has
mark_word c e =
    by_or (eqb c 72) (eqb c 104) e
    (λ f. ap (λ (k : ℕ). is_word k) (eqb-true c 72 f))
    (λ f. ap (λ (k : ℕ). is_word k) (eqb-true c 104 f))

-- ---- a number in its range
module _ (text : List ℕ) (at : ℕ) where
  abbrev digits : ℕ
  digits = span (is_digit 10) (drop at text)

  module _ {d : DigitRun} (e : d ≡ digits_at 10 text at) where
    pub digits_within : at ≤ length text → d.end ≤ length text
    digits_within h = subst (λ (k : ℕ). k ≤ length text) (sym (digits-end 10 text at e)) (span_within (is_digit 10) text at h)

module _ (limit beyond : ℕ) (text : List ℕ) (at : ℕ) where
  read_by : {i : Option ℕ} {k : ℕ} → integer_of (chars_at text at) ≡ i → end_from text at ≡ k
      → ranged_read (ranged_of limit beyond i) k ≡ ranged_at limit beyond text at
  unfolding ranged_at
  read_by e f = sym (λ j. ranged_read (ranged_of limit beyond (e j)) (f j))

  module _ {d : DigitRun} (e : d ≡ digits_at 10 text at) where
    malformed_by : {x : Read} → integer_of (chars_at text at) ≡ None → x ≡ wrong_at text d.end malformed_integer → x ≡ ranged_at limit beyond text at
    unfolding ranged_of ranged_read
    malformed_by {x} m q =
        let g : end_from text d.end ≡ end_from text at =
        ap (λ (k : ℕ). end_from text k) (digits-end 10 text at e) ∙ run_end (is_digit 10) decimal_word text at in
        q ∙ (λ j. record { value = 0; condition = malformed_integer; end = g j }) ∙ read_by m refl

    module _ {b : Bool} (f : b ≡ ends_at text d.end) where
      ends_is : {v : Bool} → b ≡ v → ends_at text (at + digits text at) ≡ v
      ends_is t = ap (λ (k : ℕ). ends_at text k) (sym (digits-end 10 text at e)) ∙ sym f ∙ t

      -- it goes on, or has no digit
      pub ranged_longer : {x : Read} → b ≡ false → x ≡ wrong_at text d.end malformed_integer → x ≡ ranged_at limit beyond text at
      ranged_longer t q =
          malformed_by
          (integer_longer (drop at text) (span is_word (drop at text)) (run_less (is_digit 10) decimal_word text at (ends_is t)) (span_le is_word (drop at text)))
          q

      module _ (t : b ≡ true) where
        whole_chars : chars_at text at ≡ take (digits text at) (drop at text)
        whole_chars = ap (λ (k : ℕ). take k (drop at text)) (sym (run_whole (is_digit 10) decimal_word text at (ends_is t)))

        pub ranged_empty : {x : Read} → d.end ≤ at → x ≡ wrong_at text d.end malformed_integer → x ≡ ranged_at limit beyond text at
        ranged_empty h q =
            let g : d.end ≡ at + digits text at = digits-end 10 text at e in
            let z : digits text at ≡ 0 = omega arith in
            malformed_by (ap integer_of whole_chars ∙ integer_none (drop at text) z) q

        module _ (h : at ≡ d.end → ⊥) where
          whole_value : integer_of (chars_at text at) ≡ Some d.value
          whole_value =
              let g : d.end ≡ at + digits text at = digits-end 10 text at e in
              let n : 0 < digits text at = omega arith in
              ap integer_of whole_chars ∙ integer_exact (drop at text) n ∙ ap Some (sym (digits_value 10 text at e))

          whole_read : ranged_read (ranged_of limit beyond (Some d.value)) d.end ≡ ranged_at limit beyond text at
          whole_read = read_by whole_value (run_ends (is_digit 10) decimal_word text at (ends_is t) ∙ sym (digits-end 10 text at e))

          pub ranged_outside : is_within 1 d.value limit ≡ false
              → ◌≡◌ {A = Read} (record { value = 0; condition = beyond; end = d.end }) (ranged_at limit beyond text at)
          unfolding ranged_of ranged_read
          ranged_outside w =
              sym (ap (λ (r : Result ℕ ℕ). ranged_read r d.end) (cond-false (is_within 1 d.value limit) (Ok d.value) (Err beyond) w)) ∙ whole_read

          pub ranged_within : is_within 1 d.value limit ≡ true
              → ◌≡◌ {A = Read} (record { value = d.value; condition = 0; end = d.end }) (ranged_at limit beyond text at)
          unfolding ranged_of ranged_read
          ranged_within w =
              sym (ap (λ (r : Result ℕ ℕ). ranged_read r d.end) (cond-true (is_within 1 d.value limit) (Ok d.value) (Err beyond) w)) ∙ whole_read

-- ---- a level
module _ (text : List ℕ) (at : ℕ) where
  abbrev run : ℕ
  run = level_span (drop at text)

  first_is : get_or (drop at text) 0 0 ≡ get_or text at 0
  first_is = get_or-drop at text 0 0 ∙ ap (λ (k : ℕ). get_or text k 0) (let z : at + 0 ≡ at = omega arith in z)

  -- what a level has is no delimiter, so that the field ends where it ends, seen from behind the level
  level_then : span is_word (drop at text) ≡ run + span is_word (drop (at + run) text)
  level_then =
      let s : List ℕ = drop at text in
      span_past is_word s run (level_span_le s)
      (λ k h. by_or (is_hex_mark (get_or s k 0)) (is_digit 16 (get_or s k 0)) (level_chars s k h) (mark_word (get_or s k 0)) (hex_word (get_or s k 0)))
      ∙ ap (λ (r : List ℕ). run + span is_word r) (drop-drop run at text)

  module _ {l : Leveling} (e : l ≡ leveling_at text at) where
    leveling_end : l.end ≡ at + run
    unfolding leveling_at
    leveling_end = ap (λ (x : Leveling). x.end) e

    leveling_level : l.level ≡ level_of (take run (drop at text))
    unfolding leveling_at
    leveling_level = ap (λ (x : Leveling). x.level) e

    pub leveling_within : at ≤ length text → l.end ≤ length text
    leveling_within h =
        let r : run ≤ length (drop at text) = level_span_le (drop at text) in
        let n : length (drop at text) ≡ length text - at = length-drop at text in
        let e : l.end ≡ at + run = leveling_end in
        omega arith

    module _ {b : Bool} (f : b ≡ ends_at text l.end) where
      level_ends : {v : Bool} → b ≡ v → ends_at text (at + run) ≡ v
      level_ends t = ap (λ (k : ℕ). ends_at text k) (sym leveling_end) ∙ sym f ∙ t

      -- it ends with its level
      pub lit_whole : {x : Lit} → b ≡ true → x ≡ lit_by l.level l.end → x ≡ lit_at text at
      unfolding lit_at
      lit_whole t q =
          let z : span is_word (drop (at + run) text) ≡ 0 = ends_none text (at + run) (level_ends t) in
          let n : span is_word (drop at text) ≡ run + span is_word (drop (at + run) text) = level_then in
          let k : run ≡ span is_word (drop at text) = omega arith in
          q ∙ (λ j. lit_by (leveling_level j) (leveling_end j))
          ∙ (λ j. lit_by (level_of (take (k j) (drop at text))) (at + k j))

      -- it goes on
      pub lit_longer : {x : Lit} → b ≡ false → x ≡ unlit_at text at l.end → x ≡ lit_at text at
      unfolding lit_at
      lit_longer t q =
          let z : 0 < span is_word (drop (at + run) text) = ends_some text (at + run) (level_ends t) in
          let n : span is_word (drop at text) ≡ run + span is_word (drop (at + run) text) = level_then in
          let k : run < span is_word (drop at text) = omega arith in
          let v : level_of (chars_at text at) ≡ cond (is_hex_mark (get_or text at 0)) (Err NotHex) (Err NotPercent) =
          level_longer (drop at text) (span is_word (drop at text)) k (span_le is_word (drop at text))
          ∙ ap (λ (c : ℕ). cond (is_hex_mark c) (Err NotHex) (Err NotPercent)) first_is in
          let y : end_from text (at + run) ≡ end_from text at = omega arith in
          let w : end_from text l.end ≡ end_from text at = ap (λ (x : ℕ). end_from text x) leveling_end ∙ y in
          q ∙ (λ j. lit_by (sym v j) (w j))
