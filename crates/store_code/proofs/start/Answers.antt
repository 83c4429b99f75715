-- `start` meets its contract: the seat is one of the desk's slots, and is written afresh; where there is none nothing is written.
use mathlib.Core.Path.{ap, ◌∙◌}
use Prim.Native.Nat.{ℕ}
use Rattle.std.specs.Prelude.{Option}
use Rattle.store_desk.proofs.Name.{ok_fits}
use Rattle.store_code.specs.Answer.{started_as}
use Rattle.store_code.proofs.Found.{seat_inside, start_at_lem, start_full}
use Rattle.store_code.proofs.start.Goals as goal

pub blank-requires : goal.blank-requires
blank-requires c = record { fitting = c.requires.fitting; slot_bound = seat_inside _ _ _ _ c.requires.key_value c.seat.ensures c.in_ok-slot.was; key_fits = ok_fits _ _ c.requires.fitting.range c.requires.key_value }

pub returns-in_err-slot : goal.returns-in_err-slot
returns-in_err-slot c = ap (λ (p : Option ℕ). started_as p c.args.store.now) c.from_residual.ensures ∙ start_full _ _ _ c.seat.ensures c.in_err-slot.was

pub returns : goal.returns
returns c = start_at_lem _ _ _ c.seat.ensures c.in_ok-slot.was c.blank.ensures
