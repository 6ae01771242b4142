-- Sums of values along the routes of pairs of nodes: for each pair the values on the lines of its route's arcs.
use Rattle.std.specs.Prelude.{◌≡◌, ℕ, ◌^◌, ◌<◌, ◌≤◌, List, length, slice_index, slice_index_or, Option, Some, None}
use Rattle.std.specs.List.{sum_by}
use Rattle.ch_graph.specs.declared.arc.InArc.{InArc}
use Rattle.ch_hierarchy.specs.Hierarchy.{LevelsAndLegs}
use Rattle.ch_query.specs.declared.routes.Route.{Route}
use Rattle.ch_query.specs.Routes.{IsRouteBy}
use Rattle.ch_engine.specs.declared.written.Summed.{Summed}
use Rattle.ch_engine.specs.declared.written.SumsEnd.{SumsEnd}
use Rattle.ch_engine.specs.Held.{Held}
use Rattle.ch_engine.specs.Lines.{Lines}
use Rattle.ch_engine.specs.Routes.{IsArcLine, IsFound, weight_word}

-- these are the lines of a route's arcs, in order: those that routes have beside their nodes
pub record AreLinesAlong (H : LevelsAndLegs) (lines : Lines) (arcs : List InArc) (along : List ℕ) : Type 0 where
  pub long : length along ≡ length arcs
  pub each : (j : ℕ) (d : InArc) → j < length arcs → IsArcLine H lines (slice_index_or arcs j d) (slice_index along j)

-- the sum of the values on these lines
abbrev pub sum_on : List ℕ → List ℕ → ℕ
sum_on values along = sum_by (λ line. slice_index values line) along

-- the sum of the values on the lines of a route's arcs. Without a walk it is 0
abbrev pub IsSumAlong : LevelsAndLegs → Lines → List ℕ → Option Route → ℕ → Type 0
IsSumAlong H lines values None sum = sum ≡ 0
IsSumAlong H lines values (Some route) sum = (along : List ℕ) × AreLinesAlong H lines route.arcs along × (sum ≡ sum_on values along)

-- the weight of the route from s to t, and the sum along it
abbrev pub IsPairSum : Held → List ℕ → ℕ → ℕ → ℕ → ℕ → Type 0
IsPairSum held values s t weight sum = (answer : Option Route) × IsFound held.hierarchy s t answer × (weight ≡ weight_word answer)
    × IsSumAlong held.hierarchy held.lines values answer sum

-- the sum along the route from s to t is 2^64 or more
abbrev pub IsPairTooLarge : Held → List ℕ → ℕ → ℕ → Type 0
IsPairTooLarge held values s t = (answer : Option Route) × (sum : ℕ) × IsFound held.hierarchy s t answer
    × IsSumAlong held.hierarchy held.lines values answer sum × (2 ^ 64 ≤ sum)

-- the reason why the sums of no more pairs were written
abbrev pub IsPairsEnd : Held → List ℕ → List ℕ → List ℕ → ℕ → SumsEnd → Type 0
IsPairsEnd held sources targets values n SumsEnd.All = n ≡ length sources
IsPairsEnd held sources targets values n SumsEnd.TooLarge = (n < length sources)
    × IsPairTooLarge held values (slice_index sources n) (slice_index targets n)
IsPairsEnd held sources targets values n SumsEnd.NoMemory = n ≤ length sources

-- the weights and sums of so many pairs were written, and this is the reason why no more were
abbrev pub ArePairSumsWritten : Held → List ℕ → List ℕ → List ℕ → List ℕ → List ℕ → Summed → Type 0
ArePairSumsWritten held sources targets values weights sums summed =
    ((k : ℕ) → k < summed.count → IsPairSum held values (slice_index sources k) (slice_index targets k) (slice_index weights k)
    (slice_index sums k)) × IsPairsEnd held sources targets values summed.count summed.end

-- an answer that is a walk of least cost between some two nodes, or none
abbrev pub IsOfSomePair : LevelsAndLegs → Option Route → Type 0
IsOfSomePair H answer = (s t : ℕ) × IsRouteBy H s t answer

-- a sum that is added up, or none if it is 2^64 or more
abbrev pub IsTotal : ℕ → Option ℕ → Type 0
IsTotal total None = 2 ^ 64 ≤ total
IsTotal total (Some sum) = sum ≡ total
