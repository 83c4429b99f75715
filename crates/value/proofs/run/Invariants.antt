-- `run` meets its contract. The invariant: the digits from here on, behind the value so far, are the whole run.
use Rattle.std.proofs.Common.{◌≡◌, ◌≤◌, drop}
use Rattle.value.specs.Integer.{cap, run_of, digits_from}
use Rattle.value.proofs.run.Given as goal

abbrev pub invariant-loop-c : goal.invariant-loop-c
invariant-loop-c l = (l.value ≤ cap) × (run_of l.radix l.s ≡ digits_from l.radix l.value (drop l.c-index l.s))
