-- The weights are those of the reached nodes before the current one.
use Rattle.std.proofs.Common.{◌≡◌, map, take}
use Rattle.ch_rows.proofs.Reaches.{weight_of}
use Rattle.ch_rows.proofs.buckets.reach.Given as goal

abbrev pub invariant-loop-node : goal.invariant-loop-node
invariant-loop-node l = l.weights.items ≡ map weight_of (take l.node-index l.node-items)
