-- The replies to queries.
use Rattle.std.specs.Prelude.{◌≡◌, ℕ, ◌<◌, Bool, true, false, List, All, Option, Some, None}
use Rattle.ch_graph.specs.declared.arc.InArc.{InArc}
use Rattle.ch_hierarchy.specs.Hierarchy.{LevelsAndLegs}
use Rattle.ch_query.specs.declared.answer.Answer.{Answer}
use Rattle.ch_query.specs.Distance.{IsDistanceBy, IsLeastWeight}
use Rattle.ch_query.specs.Routes.{IsRoute}

-- both nodes of each query are nodes of the graph
abbrev pub AreQueries : ℕ → List (ℕ × ℕ) → Type 0
AreQueries nodes queries = All (λ query. (query.0 < nodes) × (query.1 < nodes)) queries

-- the arcs are those of the route if routes are wanted and there is a walk, and otherwise there are none
abbrev pub HasArcs : LevelsAndLegs → Bool → ℕ → ℕ → Option ℕ → Option (List InArc) → Type 0
HasArcs H false s t weight arcs = arcs ≡ None
HasArcs H true s t None arcs = arcs ≡ None
HasArcs H true s t (Some x) None = ⊥
HasArcs H true s t (Some x) (Some arcs) = IsRoute H s t (record { weight = x; arcs = arcs })

-- the nodes of the query, their distance, and the route if routes are wanted
pub record IsReply (H : LevelsAndLegs) (routes : Bool) (query : ℕ × ℕ) (a : Answer) : Type 0 where
  pub from : a.from ≡ query.0
  pub to : a.to ≡ query.1
  pub least : IsLeastWeight H query.0 query.1 a.weight
  pub distance : IsDistanceBy H query.0 query.1 a.weight
  pub arcs : HasArcs H routes query.0 query.1 a.weight a.arcs
