-- The rows are the cells before the current row, cut by the number of columns.
use Rattle.std.proofs.Common.{◌≡◌, map}
use Rattle.ch_rows.specs.Table.{rows_of_cells}
use Rattle.ch_rows.proofs.by_cells.cut.Given as goal

abbrev pub invariant-loop-i : goal.invariant-loop-i
invariant-loop-i l = map (λ row. row.items) l.list.items ≡ rows_of_cells l.i l.columns l.cells
