-- The first field from a place on and the others after it, as the code finds them; an optional page and an optional delay. By the laws
-- of fields at a place.
-- Assumes nothing.
use Rattle.std.specs.Prelude.{Option, Some}
use mathlib.Core.Path.{◌≡◌, sym, ap, ◌∙◌, subst}
use mathlib.Core.Bool.{Bool, true, false, not}
use mathlib.Core.List.{List, [], ◌∷◌}
use Prim.Native.Nat.{ℕ, ◌≤◌}
use native.Mathlib.Omega.{arith}
use lib.ListN.{length}
use borrow.Author.Tests.{not-true, not-false}
use Rattle.text_records.specs.Received.{longest}
use Rattle.text_fields.specs.declared.Field.{Field}
use Rattle.text_fields.specs.declared.Said.{Said}
use Rattle.text_fields.specs.Words.{Word, head_of, tail_of}
use Rattle.text_fields.specs.Keywords.{keyword_of}
use Rattle.text_fields.specs.Places.{words_from, start_at, end_at, is_more, is_missing, field_at, word_in}
use Rattle.text_fields.specs.Tables.{said_at}
use Rattle.text_fields.proofs.Words.{end_within, words_none, words_some, words_head, words_tail, missing_is, field_fits, said_head}
use Rattle.value.specs.Field.{page_of}
use Rattle.value.specs.Time.{time_of}
use Rattle.load.specs.Ask.{page_at, delay_of}
use Rattle.load_naming.specs.Line.{Line, FieldIn}

-- ---- the field that was found
module _ {text : List ℕ} {at : ℕ} (l : Line text at) {f : Field} (e : f ≡ field_at text at) where
  pub head_at : head_of (words_from text at) ≡ word_in text f
  head_at = words_head text at ∙ ap (λ (g : Field). word_in text g) (sym e)

  pub tail_at : tail_of (words_from text at) ≡ words_from text f.end
  tail_at = words_tail text at ∙ ap (λ (g : Field). words_from text g.end) (sym e)

  pub field_in : FieldIn text f
  field_in =
      let h : (f.start ≤ f.end) × (f.end ≤ length text) = field_fits text at e l.within in
      record { ordered = h.0; inside = h.1; short = l.short }

  pub line_next : Line text f.end
  line_next = record { within = field_in.inside; short = l.short }

-- it can be lent, and blamed
module _ {text : List ℕ} {f : Field} (h : FieldIn text f) where
  pub field_lent : (f.start ≤ f.end) × (f.end ≤ length text)
  field_lent = (h.ordered, h.inside)

  pub start_low : f.start ≤ longest
  start_low =
      let a : f.start ≤ f.end = h.ordered in
      let b : f.end ≤ length text = h.inside in
      let c : length text ≤ longest = h.short in
      omega arith

-- ---- an optional page, an optional delay
module _ (text : List ℕ) (at : ℕ) {f : Field} (e : f ≡ field_at text at) {b : Bool} (m : b ≡ is_missing f) where
  not_more : b ≡ not (is_more text at)
  not_more = m ∙ ap (λ (g : Field). is_missing g) e ∙ missing_is text at

  none : b ≡ true → words_from text at ≡ []
  none t = words_none text at (not-true (is_more text at) (sym not_more ∙ t))

  some : b ≡ false → words_from text at ≡ word_in text f ∷ words_from text f.end
  some t =
      words_some text at (not-false (is_more text at) (sym not_more ∙ t))
      ∙ ap (λ (g : Field). word_in text g ∷ words_from text g.end) (sym e)

  pub page_none : (other limit : ℕ) → b ≡ true → Some other ≡ page_at other limit (words_from text at)
  unfolding page_at
  page_none other limit t = sym (ap (λ (ws : List Word). page_at other limit ws) (none t))

  pub delay_none : b ≡ true → Some 0 ≡ delay_of (words_from text at)
  unfolding delay_of
  delay_none t = sym (ap (λ (ws : List Word). delay_of ws) (none t))

  pub page_some : (other limit : ℕ) → b ≡ false → {w : List ℕ} {r : Option ℕ}
      → w ≡ (word_in text f).chars → r ≡ page_of limit w → r ≡ page_at other limit (words_from text at)
  unfolding page_at
  page_some other limit t g h =
      h ∙ ap (λ (x : List ℕ). page_of limit x) g ∙ sym (ap (λ (ws : List Word). page_at other limit ws) (some t))

  pub delay_some : b ≡ false → {r : Option ℕ} → r ≡ time_of (word_in text f).chars → r ≡ delay_of (words_from text at)
  unfolding delay_of
  delay_some t h = h ∙ sym (ap (λ (ws : List Word). delay_of ws) (some t))

-- ---- a record's first field: its keyword, and the line behind it
module _ (text : List ℕ) {start : ℕ} (e : start ≡ start_at text 0) {said : Said} (g : said ≡ said_at text start) where
  pub keyword-said : said ≡ record { keyword = keyword_of (head_of (words_from text 0)).chars; end = end_at text 0 }
  keyword-said = g ∙ said_head text 0 e

  pub said_line : length text ≤ longest → Line text said.end
  said_line h =
      record {
        within = subst (λ (y : Said). y.end ≤ length text) (sym keyword-said) (end_within text 0 (omega arith));
        short = h;
      }
