-- The cells are those of the words before the current one, and there is capacity for the others.
use Rattle.std.proofs.Common.{◌≡◌, ◌+◌, ◌-◌, ◌≤◌, length, map, take, vec_len}
use Rattle.std.specs.Prelude.{vec_capacity}
use Rattle.ch_rows.specs.Cells.{cell_of}
use Rattle.ch_rows.proofs.cells.write_cells.Given as goal

abbrev pub invariant-loop-word : goal.invariant-loop-word
invariant-loop-word l =
    (l.cells.items ≡ map (cell_of l.most) (take l.word-index l.row))
    × (vec_len l.cells + (length l.row - l.word-index) ≤ vec_capacity l.cells)
