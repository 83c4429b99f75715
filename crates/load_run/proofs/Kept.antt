-- A load is ready for its first record, and after each record for the next. From what a step keeps.
-- Assumes nothing.
use mathlib.Core.Path.{refl}
use mathlib.Core.List.{List}
use Prim.Native.Nat.{ℕ}
use Rattle.store_desk.specs.declared.Desk.{Desk}
use Rattle.store_code.specs.Fits.{Fitting}
use Rattle.load.specs.declared.Numbers.{Numbers}
use Rattle.load.specs.Translated.{step_in}
use Rattle.load_held.specs.declared.Held.{Held}
use Rattle.load_held.specs.Held.{held_of, HeldReady}
use Rattle.load_held.proofs.Holding.{nothing_ready}
use Rattle.load_step.proofs.Laws.{step_keeps}
use Rattle.load_run.specs.Loaded.{nothing_begun}

pub ready_begun : (d : Desk) (t : List ℕ) → HeldReady d t nothing_begun.held
unfolding nothing_begun
ready_begun d t = nothing_ready d t refl

pub ready_record : (d : Desk) (b : Numbers) (h : Held) (r t : List ℕ) → Fitting d t → HeldReady d t h
    → HeldReady d (step_in d b h.state r t).store (held_of d (step_in d b h.state r t).store (step_in d b h.state r t).state)
unfolding held_of
ready_record d b h r t f g = record { same = refl; settled = (step_keeps d t f h.state g.settled b r).settled }
