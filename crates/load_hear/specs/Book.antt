-- The book of a load with translation, and what it holds after a record: how many of each kind were accepted, and how many CUE records there were; the
-- marks; what the cue of each slot asked for (paper 02, C-13). No promise above the load names these.
-- Assumes nothing.
use Rattle.std.specs.Prelude.{true, ℕ, ◌+◌, ◌≤◌, replicate}
use Rattle.store_desk.specs.declared.Kind.TheVariants.{Cue, Group, Sub}
use Rattle.load.specs.declared.Heard.{Heard}
use Rattle.load.specs.declared.Heard.TheVariants.{Other, Accepted, Refused, Link as Asked}
use Rattle.load.specs.declared.Numbers.{Numbers}
use Rattle.load.specs.Translated.{asked_at, most_cues}
use Rattle.load_hear.specs.declared.Book.{Book}
use Rattle.load_hear.specs.declared.Counts.{Counts}
use Rattle.load_hear.specs.Marks.{marked_at}

-- ---- the counts: cues, groups, submasters, CUE records

unfoldable pub counted_at : Counts → Heard → Counts
counted_at c Other = c
counted_at c (Accepted Cue) = record { cues = c.cues + 1; groups = c.groups; subs = c.subs; tried = c.tried + 1 }
counted_at c (Accepted Group) = record { cues = c.cues; groups = c.groups + 1; subs = c.subs; tried = c.tried }
counted_at c (Accepted Sub) = record { cues = c.cues; groups = c.groups; subs = c.subs + 1; tried = c.tried }
counted_at c (Refused Cue) = record { cues = c.cues; groups = c.groups; subs = c.subs; tried = c.tried + 1 }
counted_at c (Refused Group) = c
counted_at c (Refused Sub) = c
counted_at c (Asked m) = c

-- no count is above n
pub record CountsWithin (c : Counts) (n : ℕ) : Type 0 where
  pub cues : c.cues ≤ n
  pub groups : c.groups ≤ n
  pub subs : c.subs ≤ n
  pub tried : c.tried ≤ n

-- ---- the book

abbrev pub book_numbers : Book → Numbers
book_numbers b = record { anew = true; cues = b.counts.cues; groups = b.counts.groups; subs = b.counts.subs }

abbrev pub BookWithin : Book → ℕ → Type 0
BookWithin b n = CountsWithin b.counts n

-- after a record, with the slot of the memory that is open after it
abbrev pub booked_at : Book → Heard → ℕ → Book
booked_at b h slot =
    record {
      counts = counted_at b.counts h;
      marks = marked_at b.marks b.counts.tried h;
      asked = asked_at b.asked slot h;
    }

-- of no kind was one accepted, and no CUE was tried
abbrev pub new_book : Book
new_book =
    record {
      counts = record { cues = 0; groups = 0; subs = 0; tried = 0 };
      marks = replicate 8192 0;
      asked = replicate most_cues 0;
    }
