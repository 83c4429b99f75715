-- A record as the code has it: by value, with the bytes behind it that happen to stand in the stream; which of its characters are plain; its
-- text at the front of its bytes. The laws say that this makes what specs/Stream.antt and specs/Cleaning.antt say. No promise above the load
-- names these.
-- Assumes nothing.
use Rattle.std.specs.Prelude.{Bool, cond, not, ◌||◌, ◌&&◌, List, ℕ, ◌+◌, ◌-◌, eqb, ltb, leb, length, take, drop}
use Rattle.cells.specs.Pad.{padded}
use Rattle.cells.specs.Put.{put}
use Rattle.cells.specs.Scan.{span}
use Rattle.text_records.specs.declared.Cleaned.{Cleaned}
use Rattle.text_records.specs.declared.Record.{Record}
use Rattle.text_records.specs.declared.Seen.{Seen}
use Rattle.text_records.specs.Received.{longest}
use Rattle.text_records.specs.Cleaning.{is_high, is_control, is_mark, has, kept_of}

-- ---- the record by value

-- the first 80 bytes of what the stream still has, and how many characters the record has
unfoldable pub window_of : List ℕ → ℕ → Record
window_of s n = record { bytes = padded longest (take longest s); count = n }

abbrev pub over_long : Record → Bool
over_long r = ltb longest r.count

-- the characters of a record that is not over-long
abbrev pub text_of : Record → List ℕ
text_of r = take r.count r.bytes

-- ---- plain characters

-- not plain: below 20 hex, above 7E hex, or `!`
unfoldable pub is_special : ℕ → Bool
is_special c = ltb c 32 || (leb 127 c || eqb c 33)

-- plain, and no space
unfoldable pub is_graphic : ℕ → Bool
is_graphic c = ltb 33 c && ltb c 127

abbrev pub is_plain : ℕ → Bool
is_plain c = not (is_special c)

-- how many characters are looked at in one step
abbrev pub block : ℕ
block = 8

unfoldable pub all_plain_of : List ℕ → Bool
all_plain_of s = not (has is_special s)

-- the first place from `at` on whose character is not plain
abbrev pub plain_end : List ℕ → ℕ → ℕ
plain_end s at = at + span is_plain (drop at s)

-- ---- its text

-- 1 for a character that is ignored as a control character
unfoldable pub control_of : ℕ → ℕ
control_of c = cond (is_control c) 1 0

-- which sorts of ignored characters stand in it
unfoldable pub seen_of : List ℕ → Seen
seen_of xs = record { high = has is_high xs; control = has is_control xs }

-- not ignored
unfoldable pub is_kept : ℕ → Bool
is_kept c = not (is_high c || is_control c)

-- how far the first `!` is
abbrev pub mark_of : List ℕ → ℕ
mark_of xs = span (λ (c : ℕ). not (is_mark c)) xs

-- a record's characters after cleaning: its text, and behind it what stood there
pub record InFront : Type 0 where
  pub cleaned : Cleaned
  pub bytes : List ℕ

abbrev pub in_front : Cleaned → List ℕ → InFront
in_front c xs = record { cleaned = c; bytes = xs }

unfoldable pub cleaned_of : List ℕ → InFront
cleaned_of xs =
    in_front
    (record { count = length (kept_of xs); high = has is_high xs; control = has is_control xs })
    (put xs 0 (kept_of xs))

-- ---- columns

-- how many characters are still to be kept behind one
abbrev pub left_behind : ℕ → ℕ → ℕ
left_behind c left = cond (is_high c || is_control c) left (left - 1)
