-- Each record read is of one class, and each tally is the number of records of its class. By induction on the records. That the four
-- sum to the records read is `load_tallies` of `load`.
-- Assumes nothing.
use mathlib.Core.Path.{◌≡◌, refl, ap}
use mathlib.Core.Bool.{cond}
use mathlib.Core.List.{List, [], ◌∷◌, map}
use Prim.Native.Nat.{ℕ, suc}
use lib.ListN.{length, length-map}
use Rattle.store_desk.specs.declared.Desk.{Desk}
use Rattle.load.specs.declared.Outcome.{Outcome}
use Rattle.load.specs.Run.{Run, Class, blank, passed, dropped, obeyed, class_of, eq_class, tally_of, load_of, totals_of}
use Rattle.theorem_told.specs.Classes.{classes_of, how_many}

pub class_each : (x : Run) → length (classes_of x) ≡ length x.outcomes
unfolding classes_of
class_each x = length-map x.outcomes class_of

tally_counts : (k : Class) (os : List Outcome) → tally_of k os ≡ how_many k (map class_of os)
unfolding tally_of how_many
tally_counts k [] = refl
tally_counts k (o ∷ os) = ap (λ (n : ℕ). cond (eq_class k (class_of o)) (suc n) n) (tally_counts k os)

-- of any run, and so of a load
abbrev pub Counted : Run → Type 0
Counted x = ((totals_of x).blank ≡ how_many blank (classes_of x))
    × ((totals_of x).passed ≡ how_many passed (classes_of x))
    × ((totals_of x).dropped ≡ how_many dropped (classes_of x))
    × ((totals_of x).obeyed ≡ how_many obeyed (classes_of x))

pub run_counts : (x : Run) → Counted x
unfolding totals_of classes_of
run_counts x =
    let os = x.outcomes in
    (tally_counts blank os, tally_counts passed os, tally_counts dropped os, tally_counts obeyed os)

pub load_counts : (d : Desk) (t stream : List ℕ) → Counted (load_of d t stream)
load_counts d t stream = run_counts (load_of d t stream)
