-- What is written reads back as the same show, with no report, and is written again as the same stream (paper 01, "What the checker must hold
-- us to", demand 2; "The written stream"; "Reports, tallies, closing number").
-- Assumes nothing.
use Rattle.std.specs.Prelude.{◌≡◌, true, List, [], ℕ, length, drop}
use Rattle.store_desk.specs.declared.Desk.{Desk}
use Rattle.store_desk.specs.Size.{Within, store_length}
use Rattle.store_desk.specs.Name.{Name}
use Rattle.store_head.specs.Pack.{Bytes}
use Rattle.store.specs.View.{memory_of, patched_to}
use Rattle.store.specs.Good.{Ready}
use Rattle.load.specs.declared.Totals.{Totals}
use Rattle.load.specs.Run.{Run, load_of, all_reports, totals_of, stored_in}
use Rattle.save.specs.Lines.{lines_of, stream_of}

-- two stores of a desk hold the same show: under every name the same memory or none (times, link, levels), and every dimmer on every page
-- patched alike. Bytes are not compared: a show that is read back stands in other slots, by page and number
pub record SameShow (d : Desk) (s t : List ℕ) : Type 0 where
  pub memories : (n : Name) → memory_of d t n ≡ memory_of d s n
  pub patch : (page dimmer : ℕ) → Within 1 page d.patch_pages → Within 1 dimmer d.dimmers → patched_to d t page dimmer ≡ patched_to d s page dimmer

-- n records, each obeyed, and no report; so the closing number is 0
abbrev pub all_obeyed : ℕ → Totals
all_obeyed n = record { reports = 0; blank = 0; obeyed = n; passed = 0; dropped = 0; closing = 0 }

-- the run x of a load into t has read back the show of s
pub record ReadBack (d : Desk) (s t : List ℕ) (x : Run) : Type 0 where
  pub reports : all_reports x ≡ []
  pub list : (reports : List ℕ) → stored_in reports (all_reports x) ≡ reports
  pub stopped : x.stopped ≡ true
  pub told : totals_of x ≡ all_obeyed (length (lines_of d s))
  pub form : Ready d x.store
  pub show : SameShow d s x.store
  pub size : length x.store ≡ length t
  pub past : drop (store_length d) x.store ≡ drop (store_length d) t
  pub again : stream_of d x.store ≡ stream_of d s

-- for every desk in range, every store of bytes in good form, and any store in good form of the same desk to read into, since the stream begins
-- with CLEAR ALL. The length of the stream plays no part: one that is too long is turned away before (R1, R5)
abbrev pub WrittenReadsBack : Type 0
WrittenReadsBack = (d : Desk) (s t : List ℕ) → Ready d s → Bytes s → Ready d t → ReadBack d s t (load_of d t (stream_of d s))
