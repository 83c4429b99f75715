-- `clear_table` meets its contract: a table with the page, and one without.
use Rattle.load_held.proofs.Clearing.{table_page, table_has, table_lacks}
use Rattle.load_held.proofs.clear_table.Goals as goal

pub clear_kind-requires : goal.clear_kind-requires
clear_kind-requires c = record { fitting = c.requires; page_lt_page_span = table_page _ _ c.requires.range c.table_pages.ensures c.if-page-table_pages.true }

pub returns-then-page-table_pages : goal.returns-then-page-table_pages
returns-then-page-table_pages c = table_has _ _ _ _ c.table_pages.ensures c.if-page-table_pages.true c.clear_kind.ensures

pub returns-else-page-table_pages : goal.returns-else-page-table_pages
returns-else-page-table_pages c = table_lacks _ _ _ _ c.table_pages.ensures c.if-page-table_pages.false
