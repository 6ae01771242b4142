-- Sums of values along the legs of a hierarchy: for each leg the values on the lines of the arcs that it stands for. The sum along
-- a route is that of the legs on both ways to where it meets.
use Rattle.std.specs.Prelude.{◌≡◌, ◌≢◌, ℕ, ◌+◌, ◌-◌, ◌^◌, ◌<◌, List, [], ◌∷◌, length, slice_index, slice_index_or, None}
use Rattle.ch_graph.specs.declared.arc.InArc.{InArc}
use Rattle.ch_hierarchy.specs.declared.leg.Leg.{Leg}
use Rattle.ch_hierarchy.specs.declared.ranked.RankedLeg.{RankedLeg}
use Rattle.ch_hierarchy.specs.Rows.{row}
use Rattle.ch_hierarchy.specs.Hierarchy.{LevelsAndLegs}
use Rattle.ch_hierarchy.specs.declared.side.Side.{Side}
use Rattle.ch_hierarchy.specs.declared.side.Side.TheVariants.{Up, Down}
use Rattle.ch_hierarchy.specs.Side.{rows_of}
use Rattle.ch_query.specs.declared.routes.Route.{Route}
use Rattle.ch_query.specs.Routes.{DescentStep, IsDescent, IsRoute, IsUnpacked}
use Rattle.ch_engine.specs.declared.leg_sums.KeptSums.{KeptSums}
use Rattle.ch_engine.specs.declared.leg_sums.LegSums.{LegSums}
use Rattle.ch_engine.specs.Lines.{IsLineBy, Lines, head_of, tail_of}
use Rattle.ch_engine.specs.RouteSums.{sum_on}

-- the word for a sum that is not known
abbrev pub unknown : ℕ
unknown = 2 ^ 64 - 1

-- leg k of a row
abbrev pub leg_on : List Leg → ℕ → Leg
leg_on legs k = slice_index_or legs k (record { node = 0; cost = record { weight = 0; arcs = 0 }; middle = None })

-- the rank of leg k of a row by rank
abbrev pub rank_at : List RankedLeg → ℕ → ℕ
rank_at legs k = (slice_index_or legs k (record { rank = 0; arcs = 0; weight = 0 })).rank

-- a line for each arc, in order: for an arc to another node the line of the arc between its ends
pub record AreLinesBetween (H : LevelsAndLegs) (lines : Lines) (arcs : List InArc) (along : List ℕ) : Type 0 where
  pub long : length along ≡ length arcs
  pub each : (j : ℕ) (d : InArc) → j < length arcs → (slice_index_or arcs j d).from ≢ (slice_index_or arcs j d).to →
      IsLineBy H lines (slice_index_or arcs j d).from (slice_index_or arcs j d).to (slice_index along j)

-- the sum of the values on such lines
abbrev pub IsSumBetween : LevelsAndLegs → Lines → List ℕ → List InArc → ℕ → Type 0
IsSumBetween H lines values arcs sum = (along : List ℕ) × AreLinesBetween H lines arcs along × (sum ≡ sum_on values along)

-- the sum of the values along a leg from u to w
abbrev pub IsLegSum : LevelsAndLegs → Lines → List ℕ → ℕ → ℕ → Leg → ℕ → Type 0
IsLegSum H lines values u w leg sum =
    (arcs : List InArc) × IsUnpacked H u w leg.cost.weight leg.middle arcs × IsSumBetween H lines values arcs sum

-- the same of a leg in the row of v
abbrev pub IsRowLegSum : Side → LevelsAndLegs → Lines → List ℕ → ℕ → Leg → ℕ → Type 0
IsRowLegSum side H lines values v leg sum = IsLegSum H lines values (tail_of side v leg.node) (head_of side v leg.node) leg sum

-- the sum of the values along the steps of a descent
abbrev pub IsStepsSum : Side → LevelsAndLegs → Lines → List ℕ → List DescentStep → ℕ → Type 0
IsStepsSum side H lines values [] sum = sum ≡ 0
IsStepsSum side H lines values (step ∷ steps) sum =
    (a b : ℕ) × IsRowLegSum side H lines values step.low step.leg a × IsStepsSum side H lines values steps b × (sum ≡ a + b)

-- the sum along the way that a route goes between x and s
abbrev pub IsDescentSum : Side → LevelsAndLegs → Lines → List ℕ → ℕ → ℕ → ℕ → Type 0
IsDescentSum side H lines values s x sum =
    (steps : List DescentStep) × IsDescent (rows_of H side) s x steps × IsStepsSum side H lines values steps sum

-- the weight of the route from s to t, and the sum of the values between the ends of its arcs
abbrev pub IsRouteSum : LevelsAndLegs → Lines → List ℕ → ℕ → ℕ → ℕ × ℕ → Type 0
IsRouteSum H lines values s t found =
    (route : Route) × IsRoute H s t route × (found.0 ≡ route.weight) × IsSumBetween H lines values route.arcs found.1

-- a word is this sum, or the word for unknown
abbrev pub IsLegWord : Side → LevelsAndLegs → Lines → List ℕ → ℕ → Leg → ℕ → Type 0
IsLegWord side H lines values v leg word = word ≢ unknown → IsRowLegSum side H lines values v leg word

-- words of the first legs of v
abbrev pub AreLegWords : Side → LevelsAndLegs → Lines → List ℕ → ℕ → List ℕ → Type 0
AreLegWords side H lines values v words = (k : ℕ) → k < length words → k < length (row (rows_of H side) v) →
    IsLegWord side H lines values v (leg_on (row (rows_of H side) v) k) (slice_index words k)

-- the word at a place of a row, or the word for unknown
abbrev pub IsWordIn : List (List ℕ) → ℕ → ℕ → ℕ → Type 0
IsWordIn rows i place word =
    word ≢ unknown → (i < length rows) × (place < length (slice_index_or rows i [])) × (word ≡ slice_index (slice_index_or rows i []) place)

-- the words of some nodes on a side: those at place i are of the node at place i of the order
abbrev pub AreLegRows : Side → LevelsAndLegs → Lines → List ℕ → List ℕ → List (List ℕ) → Type 0
AreLegRows side H lines values order rows =
    (i : ℕ) → i < length rows → AreLegWords side H lines values (slice_index order i) (slice_index_or rows i [])

-- the words of both sides
pub record AreLegSums (H : LevelsAndLegs) (lines : Lines) (values : List ℕ) (sums : LegSums) : Type 0 where
  pub up : AreLegRows Up H lines values sums.order.items sums.ups
  pub down : AreLegRows Down H lines values sums.order.items sums.downs

-- the sums that are kept are those for the values that are kept
abbrev pub AreKeptSums : LevelsAndLegs → Lines → KeptSums → Type 0
AreKeptSums H lines kept = AreLegSums H lines kept.values.items kept.sums

-- the values that are kept
abbrev pub values_of : KeptSums → List ℕ
values_of kept = kept.values.items

-- the same, with a value for each line
abbrev pub AreKeptOfLines : LevelsAndLegs → Lines → KeptSums → Type 0
AreKeptOfLines H lines kept = AreKeptSums H lines kept × (length kept.values.items ≡ lines.count)
