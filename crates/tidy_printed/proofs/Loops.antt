-- The loop over the reports: what is written, with the lines of the reports that are left, is all their lines. By the turns of the reports' text.
-- Assumes nothing.
use mathlib.Core.Path.{◌≡◌, refl}
use mathlib.Core.List.{List, ◌++◌}
use Prim.Native.Nat.{ℕ, ◌+◌, ◌≤◌, ◌<◌}
use native.Mathlib.Omega.{arith}
use lib.ListN.{length, get_or, drop}
use Rattle.text_room.specs.Wrote.{wrote, wrote_at}
use Rattle.text_room.specs.Room.{Room}
use Rattle.text_room.proofs.Chain.{Writing, writing_start, writing_room, writing_more, writing_none}
use Rattle.tidy_printed.specs.Text.{report_text, reports_text}
use Rattle.tidy_printed.proofs.Parts.{reports_turn, reports_end}

pub record Printing (t : List ℕ) (a : ℕ) (ws o : List ℕ) (next i : ℕ) : Type 0 where
  pub within : i ≤ length ws
  pub writing : Writing t a (reports_text ws) o next (reports_text (drop i ws))

pub printing_start : {t : List ℕ} {a : ℕ} (ws : List ℕ) → Room t a (reports_text ws) → Printing t a ws t a 0
printing_start ws h = record { within = omega arith; writing = writing_start refl h }

module _ {t : List ℕ} {a : ℕ} {ws o : List ℕ} {next i : ℕ} (p : Printing t a ws o next i) where
  -- a turn, on the word there
  module _ {w : ℕ} (h : i < length ws) (e : w ≡ get_or ws i 0) where
    turn : reports_text (drop i ws) ≡ report_text w ++ reports_text (drop (i + 1) ws)
    turn = rw e (reports_turn ws i h)

    pub printing_room : Room o next (report_text w)
    printing_room = writing_room _ turn p.writing

    pub printing_turn : {s : ℕ} {z : List ℕ} → wrote s z ≡ wrote_at o next (report_text w) → Printing t a ws z s (i + 1)
    printing_turn {s} {z} f = record { within = omega arith; writing = writing_more (report_text w) turn p.writing f }

  pub printing_end : length ws ≤ i → wrote next o ≡ wrote_at t a (reports_text ws)
  printing_end h = writing_none (reports_end ws i h) p.writing
