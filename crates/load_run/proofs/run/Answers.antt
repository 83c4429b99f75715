-- `run` meets its contract: the walk with the numbers as given is the run of a normal load, and its end is what that run is told as.
use Rattle.std.proofs.Common.{refl}
use Rattle.load_hear.specs.Given.{given_numbers, given_after}
use Rattle.load_run.proofs.Closing.{close_room, run_loaded_lem}
use Rattle.load_run.proofs.run.Goals as goal

pub close-requires : goal.close-requires
close-requires c = close_room given_numbers given_after _ _ _ _ _ c.walk-done.result c.walk-done.ensures c.requires.stream_len_bound

pub returns : goal.returns
returns c = run_loaded_lem given_numbers given_after _ _ _ _ _ c.walk-done.result c.walk-done.ensures refl c.close.ensures
