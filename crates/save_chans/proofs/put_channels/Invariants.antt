-- `put_channels` meets its contract. The loop's invariant: what is written, with what is left of the channels, is the CHAN records. The measure is
-- what is left.
use lib.ListN.{length}
use Prim.Native.Nat.{◌-◌}
use Rattle.save_chans.proofs.Loops.{Putting}
use Rattle.save_chans.proofs.put_channels.Given as goal

abbrev pub invariant-loop-level : goal.invariant-loop-level
invariant-loop-level l = Putting l.initial.out l.at l.levels l.out l.next l.pairs l.i

abbrev pub decreases-loop-level : goal.decreases-loop-level
decreases-loop-level l = length l.levels - l.i
