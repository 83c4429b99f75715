-- `place_fits` meets its contract: a submaster's name that can be has a place.
use Rattle.store_code.proofs.Found.{sub_range}
use Rattle.store_form.proofs.place_fits.Goals as goal

pub sub_slot-requires : goal.sub_slot-requires
sub_slot-requires c = record { in_range = c.requires.in_range; within = sub_range _ _ _ c.in-Sub.is c.requires.key_value }
