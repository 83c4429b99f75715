-- The invariant of the loop over the kind's slots: clearing what is left from here on is the whole clearing.
use mathlib.Core.Path.{◌≡◌}
use Prim.Native.Nat.{◌-◌}
use lib.ListN.{length}
use Rattle.store.specs.Change.{clear_from}
use Rattle.store_code.proofs.clear_kind.Given as goal

abbrev pub invariant-loop-slot : goal.invariant-loop-slot
invariant-loop-slot l =
    let i = l.slot-iterator in
    let first = l.initial.slot-iterator in
    record {
      long : length l.store ≡ length l.initial.store;
      last : i.end ≡ first.end;
      rest : clear_from l.desk l.page (i.end - i.start) i.start l.store ≡ clear_from l.desk l.page (first.end - first.start) first.start l.initial.store;
    }
