-- The legs of the route between two nodes, before they are unpacked.
use Rattle.std.specs.Prelude.{◌≡◌, ℕ, ◌<◌, ◌≤◌, ⊤, Bool, List, [], Option, Some, None, is_some, Vec, vec_capacity}
use Rattle.std.specs.declared.alloc.Global.{Global}
use Rattle.ch_graph.specs.declared.arc.InArc.{InArc}
use Rattle.ch_graph.specs.declared.cost.Cost.{Cost}
use Rattle.ch_hierarchy.specs.Hierarchy.{LevelsAndLegs, nodes_of}
use Rattle.ch_hierarchy.specs.Paths.{NeverMeets}
use Rattle.ch_query.specs.declared.routes.Route.{Route}
use Rattle.ch_query.specs.declared.routes.unpacking.PendingLeg.{PendingLeg}
use Rattle.ch_query.specs.declared.routes.unique.FirstTry.{FirstTry}
use Rattle.ch_query.specs.declared.routes.unique.FirstTry.TheVariants.{NoWalk, Unique, Tied}
use Rattle.ch_query.specs.Routes.{IsRoute}
use Rattle.ch_query.specs.Unpacking.{ArePending, ArePendingArcs, pending_arcs}

-- legs of the hierarchy that stand for the arcs of the route from s to t, from the last leg on. Without a walk there are none
abbrev pub AreRouteLegs : LevelsAndLegs → ℕ → ℕ → Option Route → List PendingLeg → Type 0
AreRouteLegs H s t None legs = NeverMeets H s t × (legs ≡ [])
AreRouteLegs H s t (Some route) legs = IsRoute H s t route × ArePending H legs × ArePendingArcs H legs route.arcs

-- these are the legs of the route from s to t, or there is none
abbrev pub AreLegsFound : LevelsAndLegs → ℕ → ℕ → Bool → List PendingLeg → Type 0
AreLegsFound H s t found legs = (answer : Option Route) × (found ≡ is_some answer) × AreRouteLegs H s t answer legs

-- the legs of a way of this cost, with room for its arcs: whatever arcs they stand for are the route
pub record AreLegsOver (H : LevelsAndLegs) (s t : ℕ) (cost : Cost) (legs : Vec PendingLeg Global) : Type 0 where
  pub pending : ArePending H legs.items
  pub arcs : pending_arcs legs.items ≡ cost.arcs
  pub room : cost.arcs ≤ vec_capacity legs
  pub route : (arcs : List InArc) → ArePendingArcs H legs.items arcs → IsRoute H s t (record { weight = cost.weight; arcs = arcs })

-- the legs of a way of this cost: whatever arcs they stand for are the route
pub record AreWayLegs (H : LevelsAndLegs) (s t : ℕ) (cost : Cost) (legs : List PendingLeg) : Type 0 where
  pub pending : ArePending H legs
  pub arcs : pending_arcs legs ≡ cost.arcs
  pub few : cost.arcs < nodes_of H
  pub route : (arcs : List InArc) → ArePendingArcs H legs arcs → IsRoute H s t (record { weight = cost.weight; arcs = arcs })

-- what the first try finds out: there is no walk, or these are the legs of the route, or nothing is known
abbrev pub IsFirstTry : LevelsAndLegs → ℕ → ℕ → FirstTry → List PendingLeg → Type 0
IsFirstTry H s t NoWalk legs = NeverMeets H s t × (legs ≡ [])
IsFirstTry H s t (Unique weight) legs = (cost : Cost) × (cost.weight ≡ weight) × AreWayLegs H s t cost legs
IsFirstTry H s t Tied legs = ⊤

-- the answer is the route of this weight with the arcs that these legs stand for
abbrev pub IsRouteOf : LevelsAndLegs → ℕ → List PendingLeg → Option Route → Type 0
IsRouteOf H weight legs answer =
    (arcs : List InArc) × ArePendingArcs H legs arcs × (answer ≡ Some (record { weight = weight; arcs = arcs }))
