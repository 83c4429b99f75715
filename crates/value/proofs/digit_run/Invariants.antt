-- `digit_run` meets its contract. The invariant: the digits from here on, behind the value so far, are those from `at` on.
use Rattle.std.proofs.Common.{◌≡◌, ◌≤◌}
use Rattle.value.specs.Integer.{cap}
use Rattle.value.specs.Digits.{digits_at}
use Rattle.value.proofs.Runs.{run_from}
use Rattle.value.proofs.digit_run.Given as goal

abbrev pub invariant-loop-i : goal.invariant-loop-i
invariant-loop-i g l = (l.value ≤ cap) × (run_from g.row.RADIX l.value l.text l.i ≡ digits_at g.row.RADIX l.text l.at)
