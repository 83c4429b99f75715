-- A primary's name from its fields, as the code reads them. By cases on the kind and on what each field is.
-- Assumes nothing.
use Rattle.std.specs.Prelude.{Err, None, Ok, Option, Result, Some}
use mathlib.Core.Path.{◌≡◌, sym, ap, ◌∙◌}
use mathlib.Core.List.{List}
use Prim.Native.Nat.{ℕ}
use Rattle.store_desk.specs.declared.Desk.{Desk}
use Rattle.store_desk.specs.declared.Kind.{Kind}
use Rattle.store_desk.specs.Name.{pages_of}
use Rattle.text_fields.specs.declared.Field.{Field}
use Rattle.text_fields.specs.Words.{Word, head_of, tail_of}
use Rattle.text_fields.specs.Places.{words_from, field_at, word_in}
use Rattle.value.specs.Number.{number}
use Rattle.load.specs.declared.Fault.{Fault}
use Rattle.load.specs.Condition.{bad_page}
use Rattle.load.specs.Item.{blame}
use Rattle.load.specs.Ask.{numeral_of, page_at, named_by, named_of}
use Rattle.load_naming.specs.Line.{Line}
use Rattle.load_naming.proofs.Fields.{head_at, tail_at}
use Rattle.store_desk.specs.declared.Key.{Key}
use Rattle.value.specs.declared.Number.{Number}

-- ---- a number and a page
pub named_wrong : {n : Result Number Fault} (w : Word) (p : Option ℕ) {f : Fault} → n ≡ Err f → Err f ≡ named_by n w p
unfolding named_by
named_wrong w p e = sym (ap (λ (x : Result Number Fault). named_by x w p) e)

module _ {n : Result Number Fault} {p : Option ℕ} (word : Word) {w f : ℕ} (e : n ≡ Ok (number w f)) where
  named_number : {x : Option ℕ} → p ≡ x → named_by (Ok (number w f)) word x ≡ named_by n word p
  named_number {x} g = λ i. named_by (sym e i) word (sym g i)

  pub named_bad : p ≡ None → {r : Fault} → r ≡ blame word bad_page → Err r ≡ named_by n word p
  unfolding named_by
  named_bad g h = ap (λ (x : Fault). Err x) h ∙ named_number g

  pub named_good : {q : ℕ} → p ≡ Some q → Ok (record { page = q; whole = w; fraction = f }) ≡ named_by n word p
  unfolding named_by
  named_good g = named_number g

pub named_is : (d : Desk) (k : Kind) {text : List ℕ} {at : ℕ} {f : Field} {n : Result Number Fault} {limit : ℕ} {p : Option ℕ} {r : Result Key Fault}
    → Line text at → f ≡ field_at text at → n ≡ numeral_of d k (word_in text f) → limit ≡ pages_of d k
    → p ≡ page_at 1 limit (words_from text f.end) → r ≡ named_by n (head_of (words_from text f.end)) p
    → r ≡ named_of d k (words_from text at)
unfolding named_of
named_is d k {text} {at} {f} {n} {limit} {p} l e g h q s =
    let a : word_in text f ≡ head_of (words_from text at) = sym (head_at l e) in
    let b : words_from text f.end ≡ tail_of (words_from text at) = sym (tail_at l e) in
    s
    ∙ (λ i. named_by (g i) (head_of (words_from text f.end)) (q i))
    ∙ (λ i. named_by (numeral_of d k (a i)) (head_of (b i)) (page_at 1 (h i) (b i)))
