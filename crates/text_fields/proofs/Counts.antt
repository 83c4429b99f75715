-- A field has a character at least: fields are no more than the characters that are kept. By induction on the characters.
-- Assumes nothing.
use mathlib.Core.List.{List}
use Prim.Native.Nat.{ℕ, zero, suc, ◌+◌, ◌≤◌, zero-le, suc-le-suc}
use lib.Dec.{eqb}
use lib.ListN.{length, drop}
use Rattle.cells.specs.Scan.{span}
use Rattle.cells.proofs.Split.{by_test}
use Rattle.text_records.specs.Cleaning.{kept_of}
use Rattle.text_fields.specs.Words.{Word, is_delimiter, is_word, words_in, words_of, fields_of}

pub words_in_few : (n before : ℕ) (text : List ℕ) → length (words_in n before text) ≤ n
unfolding words_in
words_in_few zero before text = zero-le
words_in_few (suc n) before text =
    let i = span is_delimiter text in
    let t = drop i text in
    let k = span is_word t in
    by_test (λ (ws : List Word). length ws ≤ suc n) (eqb k 0) _ _ (λ e. zero-le) (λ e. suc-le-suc (words_in_few n (before + (i + k)) (drop k t)))

pub words_few : (before : ℕ) (text : List ℕ) → length (words_of before text) ≤ length text
unfolding words_of
words_few before text = words_in_few (length text) before text

pub fields_few : (r : List ℕ) → length (fields_of r) ≤ length (kept_of r)
unfolding fields_of
fields_few r = words_few 0 (kept_of r)
