-- Flows: for each arc the sum of the demands of the pairs whose routes take it, as often as they take it.
use Rattle.std.specs.Prelude.{◌≡◌, ℕ, ◌*◌, ◌<◌, ◌==◌, ◌&&◌, List, [], length, slice_index, slice_index_or, Option, None, Some, MatchOption}
use Rattle.std.specs.List.{count_by, sum_by}
use Rattle.ch_graph.specs.declared.arc.InArc.{InArc}
use Rattle.ch_hierarchy.specs.Hierarchy.{LevelsAndLegs}
use Rattle.ch_hierarchy.specs.Paths.{NeverMeets}
use Rattle.ch_query.specs.declared.routes.Route.{Route}
use Rattle.ch_query.specs.Routes.{IsRoute}

-- how many of these arcs lead from u to w
abbrev pub times : ℕ → ℕ → List InArc → ℕ
times u w arcs = count_by (λ a. a.from == u && a.to == w) arcs

-- the arcs of an answer: without a walk there are none
abbrev pub arcs_of : Option Route → List InArc
arcs_of None = []
arcs_of (Some route) = route.arcs

-- the route from s to t, or none if there is no walk
abbrev pub IsAnswer : LevelsAndLegs → ℕ → ℕ → Option Route → Type 0
IsAnswer H s t answer = MatchOption answer (NeverMeets H s t) (IsRoute H s t)

-- for each of the first n pairs its demand and its route
pub record AreServed (H : LevelsAndLegs) (sources targets demands : List ℕ) (n : ℕ) (served : List (ℕ × Option Route)) : Type 0 where
  pub long : length served ≡ n
  pub demand : (i : ℕ) → i < n → (slice_index_or served i (0, None)).0 ≡ slice_index demands i
  pub route : (i : ℕ) → i < n → IsAnswer H (slice_index sources i) (slice_index targets i) (slice_index_or served i (0, None)).1

-- the sum of all demands, each times how often the route takes the arc from u to w
abbrev pub flow : ℕ → ℕ → List (ℕ × Option Route) → ℕ
flow u w served = sum_by (λ p. p.0 * times u w (arcs_of p.1)) served

-- a pair without a route counts
abbrev pub missing : Option Route → ℕ
missing None = 1
missing (Some route) = 0

-- how many pairs have no route
abbrev pub without_route : List (ℕ × Option Route) → ℕ
without_route served = sum_by (λ p. missing p.1) served
