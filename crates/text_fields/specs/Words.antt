-- The fields of a record: paper 01, "Records (§5)", on delimiters and fields; §5.4.
-- Assumes nothing.
use Rattle.std.specs.Prelude.{Bool, cond, not, List, [], ◌∷◌, ℕ, zero, suc, ◌+◌, eqb, length, take, drop}
use Rattle.cells.specs.Text.{bytes}
use Rattle.cells.specs.Scan.{span}
use Rattle.text_records.specs.Cleaning.{has, kept_of}

-- tab, space, and , / ; < = > @
unfoldable pub is_delimiter : ℕ → Bool
is_delimiter c = has (λ (d : ℕ). eqb c d) (bytes "\t ,/;<=>@")

abbrev pub is_word : ℕ → Bool
is_word c = not (is_delimiter c)

-- a field's characters, and the place of the first of them in the record's text, from 1. A missing field is an empty one in place 0
pub record Word : Type 0 where
  pub chars : List ℕ
  pub place : ℕ

abbrev pub missing : Word
missing = record { chars = []; place = 0 }

-- the first n fields of a text that stands behind so many other characters: a run of delimiters, all alike, then the characters up to the
-- next one
unfoldable pub words_in : ℕ → ℕ → List ℕ → List Word
words_in zero before text = []
words_in (suc n) before text =
    let i = span is_delimiter text in
    let t = drop i text in
    let k = span is_word t in
    let r = words_in n (before + (i + k)) (drop k t) in
    cond (eqb k 0) [] (record { chars = take k t; place = before + i + 1 } ∷ r)

-- all of them: there are no more fields than characters
unfoldable pub words_of : ℕ → List ℕ → List Word
words_of before text = words_in (length text) before text

-- the fields of a record, from its characters as received
unfoldable pub fields_of : List ℕ → List Word
fields_of xs = words_of 0 (kept_of xs)

-- the first of some fields, and the others
abbrev pub head_of : List Word → Word
head_of [] = missing
head_of (w ∷ ws) = w

abbrev pub tail_of : List Word → List Word
tail_of [] = []
tail_of (w ∷ ws) = ws
