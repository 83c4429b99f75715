-- `desk_of` meets its contract: each limit is the number at its place.
use Rattle.sphairune.proofs.Laws.{desk_is}
use Rattle.sphairune.proofs.desk_of.Goals as goal

pub returns : goal.returns
returns c = desk_is _ c.number_at.ensures c.number_at-2.ensures c.number_at-3.ensures c.number_at-4.ensures c.number_at-5.ensures c.number_at-6.ensures c.number_at-7.ensures c.number_at-8.ensures c.number_at-9.ensures
