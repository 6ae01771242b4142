-- The nodes so far are those of the first arcs.
use Rattle.std.proofs.Common.{◌≡◌, map, take}
use Rattle.ch_graph.specs.declared.arc.InArc.{InArc}
use Rattle.ch_engine.proofs.roads.tails_of.Given as goal

abbrev pub invariant-loop-k : goal.invariant-loop-k
invariant-loop-k l = l.tails.items ≡ map (λ (a : InArc). a.from) (take l.k l.arcs)
