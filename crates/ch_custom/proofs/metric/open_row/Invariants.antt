-- The pairs before this place are appended.
use Rattle.std.proofs.Common.{◌≡◌, ◌++◌, take}
use Rattle.std.specs.Prelude.{map}
use Rattle.ch_custom.specs.LegPairs.{no_pair}
use Rattle.ch_custom.proofs.metric.open_row.Given as goal

abbrev pub invariant-loop-place : goal.invariant-loop-place
invariant-loop-place l = l.pairs.items ≡ l.fn.pairs.items ++ map no_pair (take l.place l.nodes)
