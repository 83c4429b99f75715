-- `between` meets its contract: a field starts within the text.
use Rattle.load_items.proofs.Laws.{start_fits}
use Rattle.load_items.proofs.between.Goals as goal

pub ranged-requires : goal.ranged-requires
ranged-requires c = start_fits _ _ c.next_field.ensures c.requires.within
