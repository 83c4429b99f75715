-- `plain_end` meets its contract: the place where the scan from `i` ends is the place where the scan from `at` ends.
use Rattle.std.proofs.Common.{◌≡◌}
use Rattle.text_records.specs.Window.{plain_end}
use Rattle.text_records.proofs.plain_end.Given as goal

abbrev pub invariant-loop-i : goal.invariant-loop-i
invariant-loop-i l = plain_end l.stream l.i ≡ plain_end l.stream l.at
