-- The arcs before this place are put back.
use Rattle.std.proofs.Common.{take}
use Rattle.ch_custom.specs.Pruning.{AreLeft}
use Rattle.ch_custom.proofs.pruning.put_back.Given as goal

abbrev pub invariant-loop-place : goal.invariant-loop-place
invariant-loop-place l = AreLeft l.graph l._order l._rows (take l.place l.graph.arcs) l.metric
