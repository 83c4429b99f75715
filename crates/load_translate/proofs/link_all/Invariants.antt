-- `link_all` meets its contract: the slots that are left are linked as they are from the start.
use Rattle.load_translate.specs.Links.{linking}
use Rattle.load_translate.proofs.Links.{SoFar}
use lib.ListN.{length}
use mathlib.Core.Path.{◌≡◌}
use Rattle.load_translate.proofs.link_all.Given as goal

abbrev pub invariant-loop-slot : goal.invariant-loop-slot
invariant-loop-slot l =
    (l.slot-end ≡ l.desk.cues) × (length l.store ≡ length l.initial.store) × (length l.reports ≡ length l.initial.reports)
    × SoFar l.desk l.asked l.found (linking l.initial.n l.initial.store l.initial.reports) l.slot l.n l.store l.reports
