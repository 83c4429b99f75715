-- `copy` meets its contract: so far as the loop has come the bytes of src stand at the front of dst.
use Rattle.std.proofs.Common.{◌≡◌, take}
use Rattle.cells.specs.Put.{put}
use Rattle.cells.proofs.copy.Given as goal

abbrev pub invariant-loop-i : goal.invariant-loop-i
invariant-loop-i l = l.dst ≡ put l.initial.dst 0 (take l.i l.src)
