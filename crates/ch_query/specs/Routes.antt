-- The route between two nodes. It leads over the meet, each choice is the least numbered node, and each leg is
-- replaced by its arcs.
use Rattle.std.specs.Prelude.{◌≡◌, ◌≢◌, ℕ, List, [], ◌∷◌, ◌++◌, Contains, Option, Some, None, MatchOption}
use Rattle.ch_graph.specs.declared.arc.InArc.{InArc}
use Rattle.ch_graph.specs.declared.cost.Cost.{Cost}
use Rattle.ch_graph.specs.Graph.{Network, IsWithinLimits}
use Rattle.ch_graph.specs.Walk.{IsWalk, IsLeast, IsUnreachable, cost_of, weight_of}
use Rattle.ch_hierarchy.specs.declared.leg.Leg.{Leg}
use Rattle.ch_hierarchy.specs.Rows.{row}
use Rattle.ch_hierarchy.specs.Hierarchy.{LevelsAndLegs}
use Rattle.ch_hierarchy.specs.Paths.{IsMeet}
use Rattle.ch_hierarchy.specs.Kept.{IsKept}
use Rattle.ch_query.specs.declared.routes.Route.{Route}
use Rattle.ch_query.specs.Parents.{IsChosen}

-- a leg, with the lower of its two nodes
pub record DescentStep : Type 0 where
  pub low : ℕ
  pub leg : Leg

-- the chosen steps from x back down to a; each goes to the least numbered node that comes before on a least path from
-- a
abbrev pub IsDescent : List (List Leg) → ℕ → ℕ → List DescentStep → Type 0
IsDescent rows a x [] = x ≡ a
IsDescent rows a x (step ∷ steps) = (x ≢ a) × IsChosen rows a x step.low step.leg × IsDescent rows a step.low steps

-- the arcs that a leg from u to w stands for: an arc stands for itself, and a shortcut for the two legs of its middle
pub data IsUnpacked (H : LevelsAndLegs) : ℕ → ℕ → ℕ → Option ℕ → List InArc → Type 0 where
  arc : {u w weight : ℕ} → IsUnpacked H u w weight None (record { from = u; to = w; weight = weight } ∷ [])
  shortcut : {u w weight v : ℕ} {a b : Leg} {xs ys : List InArc} → Contains (row H.down v) a → a.node ≡ u →
      Contains (row H.up v) b → b.node ≡ w →
      IsUnpacked H u v a.cost.weight a.middle xs → IsUnpacked H v w b.cost.weight b.middle ys → IsUnpacked H u w weight (Some v) (xs ++ ys)

-- the arcs of the steps back down to the start, in the order of travel, so the last step comes first
abbrev pub AreUpArcs : LevelsAndLegs → List DescentStep → List InArc → Type 0
AreUpArcs H [] arcs = arcs ≡ []
AreUpArcs H (step ∷ steps) arcs =
    (before here : List InArc) × AreUpArcs H steps before
    × IsUnpacked H step.low step.leg.node step.leg.cost.weight step.leg.middle here × (arcs ≡ before ++ here)

-- the arcs of the steps down to the end, in the order of travel
abbrev pub AreDownArcs : LevelsAndLegs → List DescentStep → List InArc → Type 0
AreDownArcs H [] arcs = arcs ≡ []
AreDownArcs H (step ∷ steps) arcs =
    (here after : List InArc) × IsUnpacked H step.leg.node step.low step.leg.cost.weight step.leg.middle here
    × AreDownArcs H steps after × (arcs ≡ here ++ after)

-- the route from s to t: from s up to the meet, and from there down to t
pub record IsRoute (H : LevelsAndLegs) (s t : ℕ) (route : Route) : Type 0 where
  pub meet : ℕ
  pub cost : Cost
  pub meets : IsMeet H s t meet cost
  pub weight : route.weight ≡ cost.weight
  pub ups : List DescentStep
  pub downs : List DescentStep
  pub rise : IsDescent H.up s meet ups
  pub fall : IsDescent H.down t meet downs
  pub first : List InArc
  pub second : List InArc
  pub up_arcs : AreUpArcs H ups first
  pub down_arcs : AreDownArcs H downs second
  pub arcs : route.arcs ≡ first ++ second

-- a walk of least cost: it has the least weight, and of the walks of that weight the fewest arcs
pub record IsLeastWalk (g : Network) (s t : ℕ) (arcs : List InArc) : Type 0 where
  pub walk : IsWalk g s t arcs
  pub least : IsLeast g s t (cost_of arcs)

-- a walk of least cost with its weight, in each graph that the hierarchy is right for, or none if there is no walk
abbrev pub IsRouteBy : LevelsAndLegs → ℕ → ℕ → Option Route → Type 0
IsRouteBy H s t answer = (g : Network) → IsWithinLimits g → IsKept g H →
    MatchOption answer (IsUnreachable g s t) (λ route. IsLeastWalk g s t route.arcs × (route.weight ≡ weight_of route.arcs))
