-- A record that is not tallied as obeyed changes no byte of the store. By `untouched` of `load`, which says it of the outcome.
-- Assumes nothing.
use mathlib.Core.Path.{◌≡◌, ap}
use mathlib.Core.List.{List}
use Prim.Native.Nat.{ℕ}
use Rattle.store_desk.specs.declared.Desk.{Desk}
use Rattle.load.specs.declared.State.{State}
use Rattle.load.specs.Run.{class_of, obeyed}
use Rattle.load.specs.Step.{record_step}
use Rattle.load.proofs.Steps.{untouched}

-- blank, passed or dropped: every byte is as it was
pub untallied_untouched : (d : Desk) (s : State) (r t : List ℕ) → (class_of (record_step d s r t).outcome ≡ obeyed → ⊥)
    → (record_step d s r t).store ≡ t
unfolding class_of
untallied_untouched d s r t h = untouched d s r t (λ e. h (ap class_of e))
