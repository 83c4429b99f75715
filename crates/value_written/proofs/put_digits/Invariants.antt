-- `put_digits` meets its contract. The invariant: to put what digits are left is to put all of them into the output as it came.
use Rattle.std.proofs.Common.{◌≡◌, ◌-◌, ◌≤◌}
use Rattle.cells.specs.Put.{put}
use Rattle.value_written.specs.Text.{digits_text}
use Rattle.value_written.proofs.put_digits.Given as goal

abbrev pub invariant-loop-i : goal.invariant-loop-i
invariant-loop-i l =
    (l.at ≤ l.i) × (put l.initial.out l.at (digits_text l.radix l.count l.n) ≡ put l.out l.at (digits_text l.radix (l.i - l.at) l.rest))
