-- Each record that a load with translation reads is in one tally: each is the number of records of its class, and the four sum to the records
-- read.
-- Assumes nothing.
use mathlib.Core.Path.{◌≡◌}
use mathlib.Core.List.{List}
use Prim.Native.Nat.{ℕ, ◌+◌}
use lib.ListN.{length}
use Rattle.store_desk.specs.declared.Desk.{Desk}
use Rattle.load.specs.Run.{totals_of}
use Rattle.load.specs.Translated.{translated_of}
use Rattle.load.proofs.Counts.{tallies_sum}
use Rattle.theorem_told.proofs.Tallies.{Counted, run_counts}

pub translated_tallies : (d : Desk) (t s : List ℕ)
    → (totals_of (translated_of d t s)).blank + (totals_of (translated_of d t s)).obeyed + (totals_of (translated_of d t s)).passed
    + (totals_of (translated_of d t s)).dropped
    ≡ length (translated_of d t s).outcomes
unfolding totals_of
translated_tallies d t s = tallies_sum (translated_of d t s).outcomes

pub translated_counts : (d : Desk) (t s : List ℕ) → Counted (translated_of d t s)
translated_counts d t s = run_counts (translated_of d t s)
