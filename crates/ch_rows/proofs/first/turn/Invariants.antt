-- The row has the entries before the current one, turned.
use Rattle.std.proofs.Common.{◌≡◌, map, take}
use Rattle.ch_rows.specs.Buckets.{turned}
use Rattle.ch_rows.proofs.first.turn.Given as goal

abbrev pub invariant-loop-place : goal.invariant-loop-place
invariant-loop-place l = l.row.items ≡ map turned (take l.place-index l.bucket)
