-- The arcs before the current one are within the limits.
use Rattle.std.proofs.Common.{All, take}
use Rattle.ch_graph.specs.Graph.{IsArcWithin}
use Rattle.ch_graph.proofs.graph.first_arc_fault.Given as goal

abbrev pub invariant-loop-place : goal.invariant-loop-place
invariant-loop-place l = All (IsArcWithin l.nodes) (take l.place l.arcs)
