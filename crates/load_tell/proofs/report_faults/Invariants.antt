-- `report_faults` meets its contract: after some turns that many faults are told.
use Rattle.load_tell.specs.Count.{told, told_all, faults_as}
use lib.ListN.{take}
use mathlib.Core.Path.{◌≡◌}
use Rattle.load_tell.proofs.report_faults.Given as goal

abbrev pub invariant-loop-word : goal.invariant-loop-word
invariant-loop-word l =
    told l.n l.reports ≡ told_all l.received (told l.initial.n l.initial.reports) (take l.word-index (faults_as l.faults))
