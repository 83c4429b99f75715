-- `next_lit` meets its contract. The invariant: the dark channels from here on end where those from the start do. The measure is what is left.
use mathlib.Core.Path.{◌≡◌}
use lib.ListN.{length, drop}
use Prim.Native.Nat.{◌+◌, ◌-◌, ◌≤◌}
use Rattle.cells.specs.Scan.{span}
use Rattle.save_chans.specs.Chan.{is_dark}
use Rattle.save_chans.proofs.next_lit.Given as goal

abbrev pub invariant-loop-eight : goal.invariant-loop-eight
invariant-loop-eight l = (l.i ≤ length l.levels) × (l.i + span is_dark (drop l.i l.levels) ≡ l.at + span is_dark (drop l.at l.levels))

abbrev pub decreases-loop-eight : goal.decreases-loop-eight
decreases-loop-eight l = length l.levels - l.i
