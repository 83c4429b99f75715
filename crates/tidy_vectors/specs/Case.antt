-- A session in the file: a header line with its name and the length of its input, and then that input.
-- Assumes nothing.
use Rattle.std.specs.Prelude.{List, ℕ, ◌+◌, ◌-◌, min, length, take, drop, None, Option, Some}
use Rattle.text_records.specs.Stream.{record_end}
use Rattle.text_fields.specs.Places.{end_at, word_at}
use Rattle.value.specs.Integer.{integer_of}
use Rattle.tidy_vectors.specs.declared.Case.{Case}

-- a length that is no integer counts as 0
unfoldable pub length_by : Option ℕ → ℕ
length_by None = 0
length_by (Some n) = n

-- the second field of a line
unfoldable pub length_given : List ℕ → ℕ
length_given line = length_by (integer_of (word_at line (end_at line 0)).chars)

-- the input begins behind the line's end, and ends after so many bytes or with the file
unfoldable pub case_of : List ℕ → ℕ → ℕ → ℕ → Case
case_of s line body count = record { line = line; body = body; end = body + min count (length s - body) }

unfoldable pub case_at : List ℕ → ℕ → Case
case_at s at =
    let line = record_end s at in
    case_of s line (min (line + 1) (length s)) (length_given (take (line - at) (drop at s)))
