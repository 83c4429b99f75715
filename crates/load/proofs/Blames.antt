-- The field that is blamed, as the code has it, is the word of the definitions. By whether it is missing.
-- Assumes nothing.
use mathlib.Core.Path.{◌≡◌, sym, ap, ◌∙◌}
use mathlib.Core.Bool.{true, false}
use mathlib.Core.List.{List}
use Prim.Native.Nat.{ℕ, ◌+◌, ◌≤◌, ◌<◌}
use native.Mathlib.Omega.{arith}
use lib.ListN.{length}
use borrow.Author.Tests.{lt-ltb, le-ltb}
use Rattle.cells.proofs.Split.{cond-true, cond-false}
use Rattle.text_fields.specs.declared.Field.{Field}
use Rattle.text_fields.specs.Words.{Word, head_of}
use Rattle.text_fields.specs.Places.{words_from, start_at, field_at, is_missing, word_at}
use Rattle.text_fields.proofs.Words.{missing_some, missing_none, words_head}
use Rattle.load.specs.declared.Fault.{Fault}
use Rattle.load.specs.Item.{blame, blame_none}
use Rattle.load.specs.Fits.{blame_field}

-- a field that was found is the first word from there on
module _ (text : List ℕ) (at : ℕ) {f : Field} (e : f ≡ field_at text at) where
  pub blamed_word : (c : ℕ) {r : Fault} → r ≡ blame_field f c → r ≡ blame (head_of (words_from text at)) c
  blamed_word c b = b ∙ ap (λ (x : Field). blame_field x c) e ∙ ap (λ (w : Word). blame w c) (sym (words_head text at))

-- the first field from a place on: one that starts within the text is there
module _ (text : List ℕ) (at c : ℕ) {start : ℕ} (e : start ≡ start_at text at) where
  abbrev head_place : ℕ
  head_place = (word_at text at).place

  at_head : {p : ℕ} → p ≡ head_place → record { condition = c; place = p } ≡ blame (head_of (words_from text at)) c
  at_head q = (λ i. record { condition = c; place = q i }) ∙ ap (λ (w : Word). blame w c) (sym (words_head text at))

  pub blamed_there : start < length text → record { condition = c; place = start + 1 } ≡ blame (head_of (words_from text at)) c
  blamed_there h =
      let m : is_missing (field_at text at) ≡ false = missing_some text at (lt-ltb (start_at text at) (length text) (omega arith)) in
      at_head (ap (λ (j : ℕ). j + 1) e ∙ sym (cond-false (is_missing (field_at text at)) 0 (start_at text at + 1) m))

  pub blamed_past : length text ≤ start → {r : Fault} → r ≡ blame_none c → r ≡ blame (head_of (words_from text at)) c
  blamed_past h q =
      let m : is_missing (field_at text at) ≡ true = missing_none text at (le-ltb (start_at text at) (length text) (omega arith)) in
      q ∙ at_head (sym (cond-true (is_missing (field_at text at)) 0 (start_at text at + 1) m))
