-- The fields of a text taken one by one, at a place: whether there is one, where it starts and ends, and the others after it.
-- By the laws of scans, and by induction on the number of fields.
-- Assumes nothing.
use mathlib.Core.Path.{◌≡◌, refl, sym, ap, ◌∙◌, subst}
use mathlib.Core.Bool.{true, false, not}
use mathlib.Core.List.{List, [], ◌∷◌}
use Prim.Native.Nat.{ℕ, zero, suc, ◌+◌, ◌-◌, ◌≤◌, ◌<◌}
use native.Mathlib.Nat.{le_refl}
use native.Mathlib.Omega.{arith}
use lib.Dec.{eqb, ltb}
use lib.ListN.{length, get_or, take, drop, length-drop, drop_of_length-le}
use lib.Seq.{drop-drop, take-nil}
use borrow.Author.Tests.{ne_eqb, eq-eqb, ltb-true, ltb-false, le-ltb}
use Rattle.cells.specs.Scan.{span}
use Rattle.cells.proofs.Scan.{span_le, span_within, span_at_from, span_stop, span_end, span_more}
use Rattle.cells.proofs.Split.{by_bool, by_lt, cond-true, cond-false}
use Rattle.text_fields.specs.declared.Field.{Field}
use Rattle.text_fields.specs.Words.{is_delimiter, is_word, Word, missing, words_in, words_of, head_of, tail_of}
use Rattle.text_fields.specs.Places.{words_from, end_from, start_at, end_at, is_more, field_at, is_missing, word_in, word_at}
use Rattle.text_fields.specs.Keywords.{keyword_of, item_of}
use Rattle.text_fields.specs.Tables.{chars_at, said_at, said_item_at}

-- ---- places go forward and stay within
module _ (text : List ℕ) (at : ℕ) where
  pub start_from : at ≤ start_at text at
  unfolding start_at
  start_from = omega arith

  pub end_from_lem : start_at text at ≤ end_at text at
  unfolding end_at
  end_from_lem = omega arith

  module _ (h : at ≤ length text) where
    pub start_within : start_at text at ≤ length text
    unfolding start_at
    start_within = span_within is_delimiter text at h

    pub end_within : end_at text at ≤ length text
    unfolding end_at
    end_within = span_within is_word text (start_at text at) start_within

  -- where there is a field, it has a character
  word_some : is_more text at ≡ true → 0 < span is_word (drop (start_at text at) text)
  unfolding start_at
  word_some e =
      let h : start_at text at < length text = ltb-true (start_at text at) (length text) e in
      let d : is_delimiter (get_or text (start_at text at) 0) ≡ false = span_at_from is_delimiter text at h in
      let m : span is_word (drop (start_at text at) text) ≡ suc (span is_word (drop (start_at text at + 1) text)) =
      span_more is_word text (start_at text at) h refl (ap not d) in
      omega arith

  pub start_before : is_more text at ≡ true → start_at text at < end_at text at
  unfolding end_at
  start_before e = let m : 0 < span is_word (drop (start_at text at) text) = word_some e in omega arith

  pub end_forward : is_more text at ≡ true → at < end_at text at
  end_forward e =
      let m : start_at text at < end_at text at = start_before e in
      let f : at ≤ start_at text at = start_from in
      omega arith

  none_at : is_more text at ≡ false → span is_word (drop (start_at text at) text) ≡ 0
  none_at e = span_end is_word text (start_at text at) (ltb-false (start_at text at) (length text) e)

  -- a field is missing where it would start at the end
  pub missing_none : is_more text at ≡ false → is_missing (field_at text at) ≡ true
  unfolding end_at
  missing_none e =
      let k : span is_word (drop (start_at text at) text) ≡ 0 = none_at e in
      eq-eqb (start_at text at) (end_at text at) (omega arith)

  pub missing_some : is_more text at ≡ true → is_missing (field_at text at) ≡ false
  missing_some e =
      let m : start_at text at < end_at text at = start_before e in
      ne_eqb (start_at text at) (end_at text at) (λ f. omega arith)

  pub missing_is : is_missing (field_at text at) ≡ not (is_more text at)
  missing_is = by_bool (is_more text at) (λ e. missing_some e ∙ sym (ap not e)) (λ e. missing_none e ∙ sym (ap not e))

  -- a field's start is its own
  pub start_start : start_at text (start_at text at) ≡ start_at text at
  unfolding start_at
  start_start =
      let s = at + span is_delimiter (drop at text) in
      by_lt s (length text)
      (λ l. let z : span is_delimiter (drop s text) ≡ 0 = span_stop is_delimiter text s l refl (span_at_from is_delimiter text at l) in omega arith)
      (λ l. let z : span is_delimiter (drop s text) ≡ 0 = span_end is_delimiter text s l in omega arith)

  pub end_start : end_at text (start_at text at) ≡ end_at text at
  unfolding end_at
  end_start = ap (λ (k : ℕ). end_from text k) start_start

  pub field_start : field_at text (start_at text at) ≡ field_at text at
  field_start = λ i. record { start = start_start i; end = end_start i }

  pub word_start : word_at text (start_at text at) ≡ word_at text at
  word_start = λ i. word_in text (field_start i)

  -- what the two scans find
  pub field_is : {s r : ℕ} → s ≡ start_at text at → r ≡ end_from text s → ◌≡◌ {A = Field} (record { start = s; end = r }) (field_at text at)
  unfolding end_at
  field_is {s} {r} e f =
      let g : r ≡ end_at text at = f ∙ ap (λ (k : ℕ). end_from text k) e in
      λ i. record { start = e i; end = g i }

-- the same of the field that was found: its characters can be lent
module _ (text : List ℕ) (at : ℕ) {f : Field} (e : f ≡ field_at text at) (h : at ≤ length text) where
  pub field_fits : (f.start ≤ f.end) × (f.end ≤ length text)
  field_fits =
      subst (λ (g : Field). (g.start ≤ g.end) × (g.end ≤ length text)) (sym e) (end_from_lem text at, end_within text at h)

-- ---- any number of fields that is enough gives the same
abbrev gap : List ℕ → ℕ
gap text = span is_delimiter text

abbrev skipped : List ℕ → List ℕ
skipped text = drop (gap text) text

abbrev size : List ℕ → ℕ
size text = span is_word (skipped text)

abbrev rest : List ℕ → List ℕ
rest text = drop (size text) (skipped text)

abbrev first : ℕ → List ℕ → Word
first before text = record { chars = take (size text) (skipped text); place = before + gap text + 1 }

size_le : (text : List ℕ) → size text ≤ length (skipped text)
size_le text = span_le is_word (skipped text)

skipped_le : (text : List ℕ) → length (skipped text) ≤ length text
skipped_le text =
    let d : length (skipped text) ≡ length text - gap text = length-drop (gap text) text in
    omega arith

no_words : (n b : ℕ) (t : List ℕ) → size t ≡ 0 → words_in n b t ≡ []
unfolding words_in
no_words zero b t e = refl
no_words (suc n) b t e = cond-true (eqb (size t) 0) _ _ (eq-eqb (size t) 0 e)

some_words : (n b : ℕ) (t : List ℕ) → 0 < size t → words_in (suc n) b t ≡ first b t ∷ words_in n (b + (gap t + size t)) (rest t)
unfolding words_in
some_words n b t h = cond-false (eqb (size t) 0) _ _ (ne_eqb (size t) 0 (λ e. omega arith))

no_size : (t : List ℕ) → length t ≤ 0 → size t ≡ 0
no_size t h =
    let a : size t ≤ length (skipped t) = size_le t in
    let b : length (skipped t) ≤ length t = skipped_le t in
    omega arith

rest_shorter : (t : List ℕ) {n : ℕ} → 0 < size t → length t ≤ suc n → length (rest t) ≤ n
rest_shorter t {n} h g =
    let b : length (skipped t) ≤ length t = skipped_le t in
    let d : length (rest t) ≡ length (skipped t) - size t = length-drop (size t) (skipped t) in
    omega arith

words_fuel : (n m b : ℕ) (t : List ℕ) → length t ≤ n → length t ≤ m → words_in n b t ≡ words_in m b t
words_fuel zero m b t h g = no_words zero b t (no_size t h) ∙ sym (no_words m b t (no_size t h))
words_fuel (suc n) zero b t h g = no_words (suc n) b t (no_size t g) ∙ sym (no_words zero b t (no_size t g))
words_fuel (suc n) (suc m) b t h g =
    by_lt 0 (size t)
    (λ l.
    some_words n b t l
    ∙ ap (λ (r : List Word). first b t ∷ r) (words_fuel n m (b + (gap t + size t)) (rest t) (rest_shorter t l h) (rest_shorter t l g))
    ∙ sym (some_words m b t l))
    (λ l. let e : size t ≡ 0 = omega arith in no_words (suc n) b t e ∙ sym (no_words (suc m) b t e))

none_of : (b : ℕ) (t : List ℕ) → size t ≡ 0 → words_of b t ≡ []
unfolding words_of
none_of b t e = no_words (length t) b t e

some_of : (b : ℕ) (t : List ℕ) → 0 < size t → words_of b t ≡ first b t ∷ words_of (b + (gap t + size t)) (rest t)
unfolding words_of
some_of b t h =
    let l : length t ≤ suc (length t) = omega arith in
    words_fuel (length t) (suc (length t)) b t (le_refl (length t)) l
    ∙ some_words (length t) b t h
    ∙ ap (λ (w : List Word). first b t ∷ w)
    (words_fuel (length t) (length (rest t)) (b + (gap t + size t)) (rest t) (rest_shorter t h l) (le_refl (length (rest t))))

-- ---- at a place
module _ (text : List ℕ) (at : ℕ) where
  skipped_at : skipped (drop at text) ≡ drop (start_at text at) text
  unfolding start_at
  skipped_at = drop-drop (gap (drop at text)) at text

  size-at : size (drop at text) ≡ span is_word (drop (start_at text at) text)
  size-at = ap (λ (l : List ℕ). span is_word l) skipped_at

  past_at : at + (gap (drop at text) + size (drop at text)) ≡ end_at text at
  unfolding end_at start_at
  past_at =
      let k : size (drop at text) ≡ span is_word (drop (at + gap (drop at text)) text) = size-at in
      omega arith

  rest_at : rest (drop at text) ≡ drop (end_at text at) text
  unfolding end_at
  rest_at =
      ap (λ (l : List ℕ). drop (size (drop at text)) l) skipped_at
      ∙ drop-drop (size (drop at text)) (start_at text at) text
      ∙ ap (λ (k : ℕ). drop (start_at text at + k) text) size-at

  chars_size : span is_word (drop (start_at text at) text) ≡ end_at text at - start_at text at
  unfolding end_at
  chars_size = omega arith

  first-at : is_more text at ≡ true → first at (drop at text) ≡ word_at text at
  unfolding start_at
  first-at e =
      let c : take (size (drop at text)) (skipped (drop at text)) ≡ take (end_at text at - start_at text at) (drop (start_at text at) text) =
      (λ i. take (size-at i) (skipped_at i)) ∙ ap (λ (n : ℕ). take n (drop (start_at text at) text)) chars_size in
      let p : (word_at text at).place ≡ start_at text at + 1 = cond-false (is_missing (field_at text at)) 0 (start_at text at + 1) (missing_some text at e) in
      λ i. record { chars = c i; place = sym p i }

  -- there is none
  pub words_none : is_more text at ≡ false → words_from text at ≡ []
  words_none e = none_of at (drop at text) (size-at ∙ none_at text at e)

  -- there is one, and the others follow where it ends
  pub words_some : is_more text at ≡ true → words_from text at ≡ word_at text at ∷ words_from text (end_at text at)
  words_some e =
      let g : 0 < size (drop at text) = subst (λ (n : ℕ). 0 < n) (sym size-at) (word_some text at e) in
      some_of at (drop at text) g ∙ (λ i. first-at e i ∷ words_of (past_at i) (rest_at i))

  -- the first and the others with no question asked, a missing one too
  pub missing_at : is_more text at ≡ false → word_at text at ≡ missing
  missing_at e =
      let h : length text ≤ start_at text at = ltb-false (start_at text at) (length text) e in
      let c : take (end_at text at - start_at text at) (drop (start_at text at) text) ≡ [] =
      ap (λ (s : List ℕ). take (end_at text at - start_at text at) s) (drop_of_length-le text h) ∙ take-nil (end_at text at - start_at text at) in
      let p : (word_at text at).place ≡ 0 = cond-true (is_missing (field_at text at)) 0 (start_at text at + 1) (missing_none text at e) in
      λ i. record { chars = c i; place = p i }

  end_none : is_more text at ≡ false → is_more text (end_at text at) ≡ false
  end_none e =
      let h : length text ≤ start_at text at = ltb-false (start_at text at) (length text) e in
      let f : start_at text at ≤ end_at text at = end_from_lem text at in
      let g : end_at text at ≤ start_at text (end_at text at) = start_from text (end_at text at) in
      le-ltb (start_at text (end_at text at)) (length text) (omega arith)

  pub words_head : head_of (words_from text at) ≡ word_at text at
  words_head =
      by_bool (is_more text at)
      (λ e. ap head_of (words_some e))
      (λ e. ap head_of (words_none e) ∙ sym (missing_at e))

module _ (text : List ℕ) (at : ℕ) where
  pub words_tail : tail_of (words_from text at) ≡ words_from text (end_at text at)
  words_tail =
      by_bool (is_more text at)
      (λ e. ap tail_of (words_some text at e))
      (λ e. ap tail_of (words_none text at e) ∙ sym (words_none text (end_at text at) (end_none text at e)))

  pub more_start : is_more text (start_at text at) ≡ is_more text at
  more_start = ap (λ (k : ℕ). ltb k (length text)) (start_start text at)

  -- the fields from where the first of them starts
  pub words_start : words_from text (start_at text at) ≡ words_from text at
  words_start =
      by_bool (is_more text at)
      (λ e.
      words_some text (start_at text at) (more_start ∙ e)
      ∙ (λ i. word_start text at i ∷ words_from text (end_start text at i))
      ∙ sym (words_some text at e))
      (λ e. words_none text (start_at text at) (more_start ∙ e) ∙ sym (words_none text at e))

-- ---- the word that stands where a field starts
module _ (text : List ℕ) (at : ℕ) {s : ℕ} (e : s ≡ start_at text at) where
  pub end_of_start : end_from text s ≡ end_at text at
  unfolding end_at
  end_of_start = ap (λ (k : ℕ). end_from text k) e

  pub chars_of_start : chars_at text s ≡ (word_at text at).chars
  chars_of_start =
      ap (λ (k : ℕ). chars_at text k) e ∙ ap (λ (n : ℕ). take n (drop (start_at text at) text)) (chars_size text at)

  chars_head : chars_at text s ≡ (head_of (words_from text at)).chars
  chars_head = chars_of_start ∙ ap (λ (w : Word). w.chars) (sym (words_head text at))

  -- as a keyword, and as a CLEAR item
  pub said_head : said_at text s ≡ record { keyword = keyword_of (head_of (words_from text at)).chars; end = end_at text at }
  unfolding said_at
  said_head = λ i. record { keyword = keyword_of (chars_head i); end = end_of_start i }

  pub said_item_head : said_item_at text s ≡ record { item = item_of (head_of (words_from text at)).chars; end = end_at text at }
  unfolding said_item_at
  said_item_head = λ i. record { item = item_of (chars_head i); end = end_of_start i }
