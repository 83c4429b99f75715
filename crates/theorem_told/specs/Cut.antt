-- A stream that breaks off: what is left of its records (paper 01, "Records (§5)", on the last record). Records and places are counted from 0.
-- Assumes nothing.
use Rattle.std.specs.Prelude.{◌≡◌, false, ◌↔◌, ℕ, ◌+◌, ◌-◌, ◌<◌, min, length, get_or, take, drop}
use mathlib.Core.List.{List, [], ◌∷◌, ◌++◌, flatten}
use Rattle.store_desk.specs.declared.Desk.{Desk}
use Rattle.text_records.specs.Stream.{pieces_of, records_of}
use Rattle.load.specs.Condition.{no_enddata}
use Rattle.load.specs.Run.{Report, load_of, all_reports}
use Rattle.theorem_told.specs.Classes.{first_run, gone_on}

-- where record i starts: behind the records before it and their terminators
unfoldable pub piece_start : List ℕ → ℕ → ℕ
piece_start stream i = length (flatten (take i (pieces_of stream)))

-- where its characters end, and its terminator starts if it has one
abbrev pub text_end : List ℕ → ℕ → ℕ
text_end stream i = piece_start stream i + length (get_or (records_of stream) i [])

-- the records that have ended before place k are the first n: those whose terminator has its first byte in the stream and before k
abbrev pub EndedBefore : List ℕ → ℕ → ℕ → Type 0
EndedBefore stream k n = (i : ℕ) → (i < n) ↔ (text_end stream i < min k (length stream))

-- the characters of record n that stand before place k
unfoldable pub started_before : ℕ → List ℕ → ℕ → List ℕ
started_before k stream n = take (k - piece_start stream n) (get_or (records_of stream) n [])

-- a record without a terminator counts if it has a character
unfoldable pub if_any : List ℕ → List (List ℕ)
if_any [] = []
if_any (c ∷ cs) = (c ∷ cs) ∷ []

-- what is left of record n, which is under way at place k
unfoldable pub cut_record : ℕ → List ℕ → ℕ → List (List ℕ)
cut_record k stream n = if_any (started_before k stream n)

-- 0100, under the number of records read
abbrev pub broken_off : ℕ → Report
broken_off n = record { number = n; condition = no_enddata; column = 0 }

-- of a stream's first k bytes, before which n records have ended: those are its records, and then what is left of the next. Loading it is
-- loading those, and then going on with that one, where the whole stream goes on with the others. Unless a record stopped the load, 0100
-- comes last, under the number of all of them
pub record BrokenSaid (d : Desk) (t stream : List ℕ) (k n : ℕ) : Type 0 where
  pub records : records_of (take k stream) ≡ take n (records_of stream) ++ cut_record k stream n
  pub whole : load_of d t stream ≡ gone_on d n (first_run d t stream n) (drop n (records_of stream))
  pub load : load_of d t (take k stream) ≡ gone_on d n (first_run d t stream n) (cut_record k stream n)
  pub told : (load_of d t (take k stream)).stopped ≡ false
      → all_reports (load_of d t (take k stream))
      ≡ (load_of d t (take k stream)).reports ++ (broken_off (n + length (cut_record k stream n)) ∷ [])
