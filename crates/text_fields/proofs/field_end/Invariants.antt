-- `text_fields::field_end` meets its contract: the place where the scan from `i` ends is the place where the scan from `at` ends.
use mathlib.Core.Path.{◌≡◌}
use Prim.Native.Nat.{◌≤◌}
use lib.ListN.{length}
use Rattle.text_fields.specs.Places.{end_from}
use Rattle.text_fields.proofs.field_end.Given as goal

abbrev pub invariant-loop-i : goal.invariant-loop-i
invariant-loop-i l = (l.i ≤ length l.text) × (end_from l.text l.i ≡ end_from l.text l.at)
