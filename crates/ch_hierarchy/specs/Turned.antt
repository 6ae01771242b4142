-- Graphs and hierarchies with every direction reversed.
use Rattle.std.specs.Prelude.{map}
use Rattle.ch_graph.specs.declared.arc.InArc.{InArc}
use Rattle.ch_graph.specs.Graph.{Network}
use Rattle.ch_hierarchy.specs.Hierarchy.{LevelsAndLegs}

-- the arc in the other direction
abbrev pub turned_arc : InArc → InArc
turned_arc a = record { from = a.to; to = a.from; weight = a.weight }

-- the graph with every arc in the other direction
abbrev pub turned_graph : Network → Network
turned_graph g = record { nodes = g.nodes; arcs = map turned_arc g.arcs }

-- the hierarchy in the other direction: legs up and legs down are exchanged
abbrev pub turned_hierarchy : LevelsAndLegs → LevelsAndLegs
turned_hierarchy H = record { level = H.level; up = H.down; down = H.up }
