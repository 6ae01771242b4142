-- The rows before the current place are gathered.
use Rattle.std.proofs.Common.{take}
use Rattle.ch_rows.proofs.cells.Table.gathered.Given as goal

abbrev pub invariant-loop-place : goal.invariant-loop-place
invariant-loop-place g l = g.J.RowJob.meaning l.job (take l.place l.sources) (take l.place l.self) l.gathered
