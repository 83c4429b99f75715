-- `clear_tables` meets its contract: the patch, then kind by kind.
use Rattle.load_held.proofs.Clearing.{tables_are}
use Rattle.load_held.proofs.clear_tables.Goals as goal

pub returns : goal.returns
returns c = tables_are _ _ _ c.clear_dimmers.ensures c.clear_table.ensures c.clear_table-2.ensures c.clear_table-3.ensures
