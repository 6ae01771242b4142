-- The text has grown by the cells before the current one.
use Rattle.std.proofs.Common.{◌≡◌, ◌++◌, take, flat_map}
use Rattle.ch_text.specs.TableText.{cell_text}
use Rattle.ch_text.proofs.text.push_cells.Given as goal

abbrev pub invariant-loop-cell : goal.invariant-loop-cell
invariant-loop-cell l = l.text.items ≡ l.fn.text.items ++ flat_map cell_text (take l.cell-index l.cells)
