-- `put_integer` meets its contract: as many digits as the number has.
use Rattle.value_written.proofs.Texts.{integer_is}
use Rattle.text_room.proofs.Writes.{wrote_as}
use Rattle.value_written.proofs.put_integer.Goals as goal

pub returns : goal.returns
returns c = wrote_as _ _ (integer_is _ c.integer_length.ensures) c.put_digits.ensures
