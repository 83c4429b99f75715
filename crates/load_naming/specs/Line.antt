-- What a call brings of a record: its text, read from a place on; a field of it.
-- Assumes nothing.
use Rattle.std.specs.Prelude.{List, ℕ, ◌≤◌, length}
use Rattle.text_records.specs.Received.{longest}
use Rattle.text_fields.specs.declared.Field.{Field}

pub record Line (text : List ℕ) (at : ℕ) : Type 0 where
  pub within : at ≤ length text
  pub short : length text ≤ longest

pub record FieldIn (text : List ℕ) (f : Field) : Type 0 where
  pub ordered : f.start ≤ f.end
  pub inside : f.end ≤ length text
  pub short : length text ≤ longest
