-- `channels_length` meets its contract. The loop's invariant: the total, with the length of what is left of the channels, is the length of the CHAN
-- records. The measure is what is left.
use lib.ListN.{length}
use Prim.Native.Nat.{◌-◌}
use Rattle.save_chans.proofs.Loops.{Adding}
use Rattle.save_chans.proofs.channels_length.Given as goal

abbrev pub invariant-loop-level : goal.invariant-loop-level
invariant-loop-level l = Adding l.levels l.total l.pairs l.i

abbrev pub decreases-loop-level : goal.decreases-loop-level
decreases-loop-level l = length l.levels - l.i
