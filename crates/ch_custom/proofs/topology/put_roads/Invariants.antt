-- The ends of the arcs before this place are pairs, and all pairs are needed.
use Rattle.std.proofs.Common.{take}
use Rattle.ch_custom.specs.Pairs.{AreRowsFor}
use Rattle.ch_custom.specs.Triangles.{AreNeeded}
use Rattle.ch_custom.proofs.topology.put_roads.Given as goal

abbrev pub invariant-loop-place : goal.invariant-loop-place
invariant-loop-place l = AreRowsFor l.graph l._order l.levels (take l.place l.graph.arcs) l.pairs × AreNeeded l.graph l._order l.pairs
