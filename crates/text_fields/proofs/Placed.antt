-- Where a field stands: its place is that of its first character in the record's text. By induction on the number of fields.
-- Assumes nothing.
use mathlib.Core.Path.{◌≡◌, refl, ap, ◌∙◌}
use mathlib.Core.List.{List, [], ◌∷◌}
use Prim.Native.Nat.{ℕ, zero, suc, ◌+◌, ◌-◌, ◌≤◌, ◌<◌}
use native.Mathlib.Nat.{not-suc-le-zero, le_of_suc-le-suc}
use native.Mathlib.Omega.{arith}
use lib.Dec.{eqb}
use lib.ListN.{length, get_or, take, drop, length-drop, get_or-eq_default}
use lib.Seq.{get_or-drop, get_or-take}
use borrow.Author.Tests.{eqb-false}
use Rattle.cells.specs.Scan.{span}
use Rattle.cells.proofs.Scan.{span_le}
use Rattle.cells.proofs.Split.{by_test, by_lt}
use Rattle.text_records.specs.Cleaning.{kept_of}
use Rattle.text_fields.specs.Words.{Word, missing, is_delimiter, is_word, words_in, words_of, fields_of}

-- of a text that stands behind so many other characters
pub record Placed (before : ℕ) (text : List ℕ) (w : Word) : Type 0 where
  pub index : ℕ
  pub within : index < length text
  pub place : w.place ≡ before + index + 1
  pub first : get_or w.chars 0 0 ≡ get_or text index 0

-- the delimiters ahead of the first field, its size, and what is behind it
abbrev gap : List ℕ → ℕ
gap text = span is_delimiter text

abbrev size : List ℕ → ℕ
size text = span is_word (drop (gap text) text)

abbrev behind : List ℕ → List ℕ
behind text = drop (size text) (drop (gap text) text)

abbrev others : ℕ → ℕ → List ℕ → List Word
others n before text = words_in n (before + (gap text + size text)) (behind text)

module _ (before : ℕ) (text : List ℕ) where
  abbrev first : Word
  first = record { chars = take (size text) (drop (gap text) text); place = before + gap text + 1 }

  first_placed : 0 < size text → Placed before text first
  first_placed h =
      let a : size text ≤ length (drop (gap text) text) = span_le is_word (drop (gap text) text) in
      let b : length (drop (gap text) text) ≡ length text - gap text = length-drop (gap text) text in
      let z : gap text + 0 ≡ gap text = omega arith in
      record {
        index = gap text;
        within = omega arith;
        place = refl;
        first = get_or-take (size text) (drop (gap text) text) 0 0 h ∙ get_or-drop (gap text) text 0 0 ∙ ap (λ (k : ℕ). get_or text k 0) z;
      }

  later_placed : (w : Word) → Placed (before + (gap text + size text)) (behind text) w → Placed before text w
  later_placed w x =
      let a : length (behind text) ≡ length (drop (gap text) text) - size text = length-drop (size text) (drop (gap text) text) in
      let b : length (drop (gap text) text) ≡ length text - gap text = length-drop (gap text) text in
      let l : x.index < length (behind text) = x.within in
      let p : w.place ≡ before + (gap text + size text) + x.index + 1 = x.place in
      record {
        index = gap text + (size text + x.index);
        within = omega arith;
        place = omega arith;
        first = x.first ∙ get_or-drop (size text) (drop (gap text) text) x.index 0 ∙ get_or-drop (gap text) text (size text + x.index) 0;
      }

  placed_on : (n i : ℕ) → 0 < size text → i < suc (length (others n before text))
      → ((j : ℕ) → j < length (others n before text) → Placed (before + (gap text + size text)) (behind text) (get_or (others n before text) j missing))
      → Placed before text (get_or (first ∷ others n before text) i missing)
  placed_on n zero z h ih = first_placed z
  placed_on n (suc i) z h ih = later_placed (get_or (others n before text) i missing) (ih i (le_of_suc-le-suc h))

words_placed : (n before : ℕ) (text : List ℕ) (i : ℕ) → i < length (words_in n before text) → Placed before text (get_or (words_in n before text) i missing)
unfolding words_in
words_placed zero before text i = λ h. absurd (not-suc-le-zero h)
words_placed (suc n) before text i =
    by_test (λ (ws : List Word). i < length ws → Placed before text (get_or ws i missing)) (eqb (size text) 0) [] (first before text ∷ others n before text)
    (λ e h. absurd (not-suc-le-zero h))
    (λ e h.
    let z : size text ≡ 0 → ⊥ = eqb-false (size text) 0 e in
    placed_on before text n i (omega arith) h (words_placed n (before + (gap text + size text)) (behind text)))

module _ (text : List ℕ) (i : ℕ) where
  pub text_placed : i < length (words_of 0 text) → Placed 0 text (get_or (words_of 0 text) i missing)
  unfolding words_of
  text_placed h = words_placed (length text) 0 text i h

  -- no place is past the text; a missing field has none
  pub place_within : (get_or (words_of 0 text) i missing).place ≤ length text
  place_within =
      by_lt i (length (words_of 0 text))
      (λ h.
      let x = text_placed h in
      let a : (get_or (words_of 0 text) i missing).place ≡ 0 + x.index + 1 = x.place in
      let b : x.index < length text = x.within in
      omega arith)
      (λ h.
      let a : (get_or (words_of 0 text) i missing).place ≡ 0 = ap (λ (w : Word). w.place) (get_or-eq_default (words_of 0 text) missing h) in
      omega arith)

-- of a record as received
pub field_placed : (r : List ℕ) (i : ℕ) → i < length (fields_of r) → Placed 0 (kept_of r) (get_or (fields_of r) i missing)
unfolding fields_of
field_placed r i h = text_placed (kept_of r) i h
