-- `new_seat` meets its contract, kind by kind.
use Rattle.store_code.proofs.Found.{sub_range, new_lowest, new_sub}
use Rattle.store_code.proofs.new_seat.Goals as goal

pub sub_slot-requires : goal.sub_slot-requires
sub_slot-requires c = record { in_range = c.requires.fitting.range; within = sub_range _ _ _ c.in-Sub.is c.requires.key_value }

pub returns-in-Cue : goal.returns-in-Cue
returns-in-Cue c = new_lowest _ _ _ _ c.in-Cue.is c.lowest_unused.ensures

pub returns-in-Sub : goal.returns-in-Sub
returns-in-Sub c = new_sub _ _ _ _ c.in-Sub.is c.sub_slot.ensures
