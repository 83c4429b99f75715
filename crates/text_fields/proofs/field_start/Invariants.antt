-- `text_fields::field_start` meets its contract: the place where the scan from `i` ends is the place where the scan from `at` ends.
use mathlib.Core.Path.{◌≡◌}
use Prim.Native.Nat.{◌≤◌, ◌+◌}
use lib.ListN.{length, drop}
use Rattle.cells.specs.Scan.{span}
use Rattle.text_fields.specs.Words.{is_delimiter}
use Rattle.text_fields.specs.Places.{start_at}
use Rattle.text_fields.proofs.field_start.Given as goal

abbrev pub invariant-loop-i : goal.invariant-loop-i
invariant-loop-i l = (l.i ≤ length l.text) × (l.i + span is_delimiter (drop l.i l.text) ≡ start_at l.text l.at)
