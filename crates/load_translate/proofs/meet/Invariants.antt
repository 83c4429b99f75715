-- `meet` meets its contract: the slots that are left are met as they are from the start.
use Rattle.std.proofs.Common.{◌≡◌, ◌-◌, length}
use Rattle.load_translate.specs.Bearing.{met_from}
use Rattle.load_translate.proofs.meet.Given as goal

abbrev pub invariant-loop-i : goal.invariant-loop-i
invariant-loop-i l =
    met_from l.asked l.number l.k (length l.initial.found) 0 l.initial.found ≡ met_from l.asked l.number l.k (length l.initial.found - l.i) l.i l.found
