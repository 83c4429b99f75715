-- The invariant of the loop: the first such slot from here on is the first of all, and no word of the kind so far is above the top.
use Rattle.store_form.specs.Keys.{seen_before, Topped}
use Rattle.cells.specs.Search.{first_from}
use Prim.Native.Nat.{◌-◌}
use mathlib.Core.Path.{◌≡◌}
use Rattle.store_form.proofs.first_seen.Given as goal

abbrev pub invariant-loop-slot : goal.invariant-loop-slot
invariant-loop-slot l =
    record {
      rest : first_from (seen_before l.cues l.words) (l.n - l.slot) l.slot ≡ first_from (seen_before l.cues l.words) l.n 0;
      topped : Topped l.cues l.words l.slot l.top;
    }
