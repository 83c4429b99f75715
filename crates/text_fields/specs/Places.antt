-- Fields as the code finds them, from a place in the text on. No promise above the load names these.
-- Assumes nothing.
use Rattle.std.specs.Prelude.{Bool, cond, List, ℕ, ◌+◌, ◌-◌, eqb, ltb, length, take, drop}
use Rattle.cells.specs.Scan.{span}
use Rattle.text_fields.specs.declared.Field.{Field}
use Rattle.text_fields.specs.Words.{is_delimiter, is_word, Word, words_of}

-- the fields from a place on
abbrev pub words_from : List ℕ → ℕ → List Word
words_from text at = words_of at (drop at text)

-- where the field that goes on at a place ends
abbrev pub end_from : List ℕ → ℕ → ℕ
end_from text at = at + span is_word (drop at text)

-- where the first field from a place on starts and ends: both at the end of the text where there is none
unfoldable pub start_at : List ℕ → ℕ → ℕ
start_at text at = at + span is_delimiter (drop at text)

unfoldable pub end_at : List ℕ → ℕ → ℕ
end_at text at = end_from text (start_at text at)

abbrev pub is_more : List ℕ → ℕ → Bool
is_more text at = ltb (start_at text at) (length text)

abbrev pub field_at : List ℕ → ℕ → Field
field_at text at = record { start = start_at text at; end = end_at text at }

-- the field that stands at a place in the text; a missing one has no place
abbrev pub is_missing : Field → Bool
is_missing f = eqb f.start f.end

abbrev pub word_in : List ℕ → Field → Word
word_in text f = record { chars = take (f.end - f.start) (drop f.start text); place = cond (is_missing f) 0 (f.start + 1) }

abbrev pub word_at : List ℕ → ℕ → Word
word_at text at = word_in text (field_at text at)
