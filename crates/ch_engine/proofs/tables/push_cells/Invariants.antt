-- The words of the sums before the current one are appended.
use Rattle.std.proofs.Common.{◌≡◌, ◌++◌, map, take}
use Rattle.ch_engine.specs.Tables.{cell_word}
use Rattle.ch_engine.proofs.tables.push_cells.Given as goal

abbrev pub invariant-loop-sum : goal.invariant-loop-sum
invariant-loop-sum l = l.words.items ≡ l.fn.words.items ++ map (cell_word l.most) (take l.sum-index l.row)
