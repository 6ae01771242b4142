-- The places of the legs before the current one are a way.
use Rattle.std.proofs.Common.{List, take}
use Rattle.ch_graph.specs.declared.arc.InArc.{InArc as AnyArc}
use Rattle.ch_query.specs.Unpacking.{ArePendingArcs}
use Rattle.ch_flows.specs.Plans.{IsWay}
use Rattle.ch_flows.proofs.pairs.push_places.Given as goal

abbrev pub invariant-loop-j : goal.invariant-loop-j
invariant-loop-j l = (arcs : List AnyArc) → ArePendingArcs l.hierarchy (take l.j l.legs) arcs →
    IsWay l.hierarchy l.layout.links.items l.places.items arcs
