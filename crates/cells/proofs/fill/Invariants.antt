-- `fill` meets its contract: so far as the loop has come the bytes are v, and the rest is as it was.
use Rattle.std.proofs.Common.{◌≡◌, ◌++◌, drop, replicate}
use Rattle.cells.proofs.fill.Given as goal

abbrev pub invariant-loop-x : goal.invariant-loop-x
invariant-loop-x l = l.s ≡ replicate l.x-index l.v ++ drop l.x-index l.initial.s
