-- `seat` meets its contract: where the memory is found, else a new seat.
use Rattle.store_desk.proofs.Name.{ok_fits}
use Rattle.store_code.proofs.Found.{seat_kept, seat_new}
use Rattle.store_code.proofs.seat.Goals as goal

pub find-requires : goal.find-requires
find-requires c = record { fitting = c.requires.fitting; key_fits = ok_fits _ _ c.requires.fitting.range c.requires.key_value }

pub returns-in-Some : goal.returns-in-Some
returns-in-Some c = seat_kept _ _ _ c.find.ensures c.in-Some.is

pub returns-in-None : goal.returns-in-None
returns-in-None c = seat_new _ _ _ c.find.ensures c.in-None.is c.new_seat.ensures
