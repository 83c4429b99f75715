-- `length_in` meets its contract: the second field lies in the line, and its integer is the length.
use Rattle.std.proofs.Common.{arith}
use Rattle.tidy_vectors.proofs.Cases.{length_none, length_value}
use Rattle.text_fields.proofs.Words.{field_fits}
use Rattle.tidy_vectors.proofs.length_in.Goals as goal

pub field_at-count-requires : goal.field_at-count-requires
field_at-count-requires c = (field_fits c.args.line.now 0 c.field_at-name.ensures (omega arith)).1

pub word-requires : goal.word-requires
word-requires c =
    field_fits c.args.line.now _ c.field_at-count.ensures (field_fits c.args.line.now 0 c.field_at-name.ensures (omega arith)).1

pub returns-in-None : goal.returns-in-None
returns-in-None c =
    length_none _ c.field_at-name.ensures c.field_at-count.ensures c.word.ensures c.read_integer.ensures c.in-None.is

pub returns-in-Some : goal.returns-in-Some
returns-in-Some c =
    length_value _ c.field_at-name.ensures c.field_at-count.ensures c.word.ensures c.read_integer.ensures c.in-Some.is c.place.ensures
