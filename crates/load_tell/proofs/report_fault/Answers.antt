-- `report_fault` meets its contract: the fault's place is within the record, and what it is told under is its column.
use Rattle.load_tell.proofs.Telling.{column_told, tellable_place, tellable_report}
use Rattle.load_tell.proofs.report_fault.Goals as goal

pub column_of-column-requires-clause-place_in_bounds : goal.column_of-column-requires-clause-place_in_bounds
column_of-column-requires-clause-place_in_bounds c = tellable_place _ c.requires.tellable

pub report-requires : goal.report-requires
report-requires c = tellable_report _ c.requires.tellable c.column_of-column.ensures

pub returns : goal.returns
returns c = column_told _ _ _ c.report.ensures c.column_of-column.ensures
