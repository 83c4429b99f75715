-- `seen_in` meets its contract: what was seen so far, and what is seen in the rest, is seen in all of it.
use Rattle.std.proofs.Common.{◌≡◌, ◌||◌, drop}
use Rattle.text_records.specs.Cleaning.{is_high, is_control, has}
use Rattle.text_records.proofs.seen_in.Given as goal

abbrev pub invariant-loop-c : goal.invariant-loop-c
invariant-loop-c l =
    ((l.high || has is_high (drop l.c-index l.s)) ≡ has is_high l.s) × ((l.control || has is_control (drop l.c-index l.s)) ≡ has is_control l.s)
