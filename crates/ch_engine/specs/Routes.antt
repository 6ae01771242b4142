-- Routes of pairs of nodes, one after the other in arrays: the weight of each, where its nodes end, its nodes, and on
-- request the lines of its arcs.
use Rattle.std.specs.Prelude.{◌≡◌, ◌≢◌, ℕ, ◌+◌, ◌<◌, ◌≤◌, List, [], ◌∷◌, length, map, slice_index, slice_index_or, ⊤, Option, Some}
use Rattle.std.specs.Prelude.{None, MatchOption}
use Rattle.ch_graph.specs.declared.arc.InArc.{InArc}
use Rattle.ch_graph.specs.Graph.{Network, IsWithinLimits}
use Rattle.ch_hierarchy.specs.Hierarchy.{LevelsAndLegs, nodes_of}
use Rattle.ch_hierarchy.specs.Kept.{IsKept}
use Rattle.ch_hierarchy.specs.Paths.{NeverMeets}
use Rattle.ch_query.specs.declared.routes.Route.{Route}
use Rattle.ch_query.specs.Routes.{IsRoute, IsRouteBy}
use Rattle.ch_engine.specs.declared.written.End.{End}
use Rattle.ch_engine.specs.declared.written.Written.{Written}
use Rattle.ch_engine.specs.Cells.{no_distance}
use Rattle.ch_engine.specs.Held.{Held}
use Rattle.ch_engine.specs.Lines.{AreLines, IsFirstLine, IsLineBy, Leads, Lines, arc_on, no_line}
use Rattle.ch_engine.specs.NearRows.{begin_of}

-- the nodes to which the arcs lead
abbrev pub heads_of : List InArc → List ℕ
heads_of arcs = map (λ a. a.to) arcs

-- the nodes of a route from s: s, and then the node to which each arc leads. Without a walk there are none
abbrev pub nodes_from : ℕ → Option Route → List ℕ
nodes_from s None = []
nodes_from s (Some route) = s ∷ heads_of route.arcs

-- the word of a route's weight, or the word for none
abbrev pub weight_word : Option Route → ℕ
weight_word None = no_distance
weight_word (Some route) = route.weight

-- the route from s to t, or none if there is no walk: the one that the definitions name. In each graph that the
-- hierarchy is right for it is a walk of least cost. It has at most as many nodes as the network
pub record IsFound (H : LevelsAndLegs) (s t : ℕ) (answer : Option Route) : Type 0 where
  pub chosen : MatchOption answer (NeverMeets H s t) (IsRoute H s t)
  pub walk : IsRouteBy H s t answer
  pub few : length (nodes_from s answer) ≤ nodes_of H

-- a list is in an array from this place on
abbrev pub HoldsFrom : ℕ → List ℕ → List ℕ → Type 0
HoldsFrom begin list array = (j : ℕ) → j < length list → slice_index array (begin + j) ≡ slice_index list j

-- the line of an arc of a route, in each graph that the hierarchy is right for and that has these lines: the arc is on
-- it, and of the arcs between the same nodes it is the first of least weight
abbrev pub IsArcLine : LevelsAndLegs → Lines → InArc → ℕ → Type 0
IsArcLine H lines a line = (g : Network) → IsWithinLimits g → IsKept g H → AreLines g H lines →
    IsFirstLine g.arcs (Leads g.arcs a.from a.to) line × (arc_on g.arcs line ≡ a)

-- if lines are asked for: the word for none, and then the line of each arc, in an array from this place on
abbrev pub AreArcLines : LevelsAndLegs → Lines → Option Route → ℕ → List ℕ → Type 0
AreArcLines H lines None begin array = ⊤
AreArcLines H lines (Some route) begin array =
    0 < length array → (slice_index array begin ≡ no_line) × ((j : ℕ) (d : InArc) → j < length route.arcs →
    IsArcLine H lines (slice_index_or route.arcs j d) (slice_index array (begin + 1 + j)))

-- the same of arcs that need not be those of a route
abbrev pub AreNoted : LevelsAndLegs → Lines → Option Route → ℕ → List ℕ → Type 0
AreNoted H lines None begin array = ⊤
AreNoted H lines (Some route) begin array = 0 < length array →
    (slice_index array begin ≡ no_line) × ((j : ℕ) (d : InArc) → j < length route.arcs →
    (slice_index_or route.arcs j d).from ≢ (slice_index_or route.arcs j d).to → IsLineBy H lines
    (slice_index_or route.arcs j d).from (slice_index_or route.arcs j d).to (slice_index array (begin + 1 + j)))

-- the weight of the route from s to t, its nodes from their begin to their end, and the lines of its arcs
abbrev pub IsRouteAt : Held → ℕ → ℕ → ℕ → ℕ → ℕ → List ℕ → List ℕ → Type 0
IsRouteAt held s t weight begin end nodes lines =
    (answer : Option Route) × IsFound held.hierarchy s t answer × (weight ≡ weight_word answer)
    × (end ≡ begin + length (nodes_from s answer)) × (end ≤ length nodes)
    × HoldsFrom begin (nodes_from s answer) nodes × AreArcLines held.hierarchy held.lines answer begin lines

-- the routes of the first n pairs are in the arrays, one after the other
abbrev pub AreRoutesAt : Held → List ℕ → List ℕ → List ℕ → List ℕ → List ℕ → List ℕ → ℕ → Type 0
AreRoutesAt held sources targets weights ends nodes lines n =
    (k : ℕ) → k < n → IsRouteAt held (slice_index sources k) (slice_index targets k) (slice_index weights k) (begin_of ends k)
    (slice_index ends k) nodes lines

-- the route after the first n has more nodes than there is room left for
abbrev pub LacksRoom : LevelsAndLegs → List ℕ → List ℕ → List ℕ → List ℕ → ℕ → Type 0
LacksRoom H sources targets ends nodes n =
    (answer : Option Route) × IsFound H (slice_index sources n) (slice_index targets n) answer
    × (length nodes < begin_of ends n + length (nodes_from (slice_index sources n) answer))

-- the reason why no more routes were written
abbrev pub IsEnd : LevelsAndLegs → List ℕ → List ℕ → List ℕ → List ℕ → ℕ → End → Type 0
IsEnd H sources targets ends nodes n End.All = n ≡ length sources
IsEnd H sources targets ends nodes n End.NoRoom = (n < length sources) × LacksRoom H sources targets ends nodes n
IsEnd H sources targets ends nodes n End.NoMemory = n ≤ length sources

-- this number of routes was written, and this is the reason why no more were
abbrev pub AreRoutesWritten : Held → List ℕ → List ℕ → List ℕ → List ℕ → List ℕ → List ℕ → Written → Type 0
AreRoutesWritten held sources targets weights ends nodes lines written =
    AreRoutesAt held sources targets weights ends nodes lines written.count
    × IsEnd held.hierarchy sources targets ends nodes written.count written.end
