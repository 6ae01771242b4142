-- Sums of values along the routes of a table's cells: search trees with sums, where those of a source and a target meet, and
-- what is written.
use Rattle.std.specs.Prelude.{◌≡◌, ◌≢◌, ℕ, ◌+◌, ◌*◌, ◌^◌, ◌<◌, ◌≤◌, ◌⊎◌, ◌++◌, ⊤, List, [], length, map, slice_index}
use Rattle.std.specs.Prelude.{slice_index_or, All, Contains}
use Rattle.ch_graph.specs.declared.limits.TheConstants.{MOST_WEIGHT}
use Rattle.std.specs.Prelude.{MatchOption, Option, None, Some}
use Rattle.ch_graph.specs.declared.cost.Cost.{Cost}
use Rattle.ch_graph.specs.Cost.{cost_sum}
use Rattle.ch_hierarchy.specs.Hierarchy.{LevelsAndLegs, nodes_of}
use Rattle.ch_hierarchy.specs.declared.side.Side.{Side}
use Rattle.ch_hierarchy.specs.declared.side.Side.TheVariants.{Up, Down}
use Rattle.ch_hierarchy.specs.Side.{rows_of}
use Rattle.ch_query.specs.declared.sides.growing.TreeNode.{TreeNode}
use Rattle.ch_query.specs.Routes.{DescentStep, IsDescent}
use Rattle.ch_query.specs.Search.{IsUpwardCost}
use Rattle.ch_query.specs.SearchSpace.{IsTight}
use Rattle.ch_query.specs.SearchTree.{FollowsParents}
use Rattle.ch_query.specs.TwoSided.{MeetsFirst}
use Rattle.ch_engine.specs.declared.sum_trees.Branch.{Branch}
use Rattle.ch_engine.specs.declared.sum_meets.Meeting.{Meeting}
use Rattle.ch_engine.specs.declared.sum_meets.Stop.{Stop}
use Rattle.ch_engine.specs.declared.written.Summed.{Summed}
use Rattle.ch_engine.specs.declared.written.SumsEnd.{SumsEnd}
use Rattle.ch_engine.specs.Held.{Held}
use Rattle.ch_engine.specs.LegSums.{IsDescentSum, IsStepsSum, unknown}
use Rattle.ch_engine.specs.Lines.{Lines}
use Rattle.ch_engine.specs.RouteSums.{IsPairSum, IsPairTooLarge}
use Rattle.ch_engine.specs.Slots.{IsSlotOf}

-- the sum along each way back from v that follows parents is this one, if it is known
abbrev pub IsSumBack : Side → LevelsAndLegs → Lines → List ℕ → ℕ → List ℕ → ℕ → ℕ → Type 0
IsSumBack side H lines values s parents v sum = sum ≢ unknown → (steps : List DescentStep) → IsDescent (rows_of H side) s v steps →
    FollowsParents parents v steps → IsStepsSum side H lines values steps sum

-- these are the first nodes of a search tree, each with its sum
pub record AreSummed (side : Side) (H : LevelsAndLegs) (lines : Lines) (values : List ℕ) (s : ℕ) (parents : List ℕ) (nodes : List TreeNode)
    (branches : List Branch) : Type 0 where
  pub sound : (e : Branch) → Contains branches e → (p : ℕ) × Contains nodes (record { node = e.node; cost = e.cost; parent = p })
  pub whole : (e : TreeNode) → Contains nodes e → (w : ℕ) × Contains branches (record { node = e.node; cost = e.cost; sum = w })
  pub sums : (e : Branch) → Contains branches e → IsSumBack side H lines values s parents e.node e.sum

-- some path between s and v costs this. If v is tight, the sum along the way that a route goes is this one, if it is known
pub record IsBranch (side : Side) (H : LevelsAndLegs) (lines : Lines) (values : List ℕ) (s v : ℕ) (cost : Cost) (sum : ℕ) : Type 0 where
  pub node : v < nodes_of H
  pub path : IsUpwardCost (rows_of H side) s v cost
  pub arcs : cost.arcs < 2 ^ 63
  pub sum_is : IsTight H side s v cost → sum ≢ unknown → IsDescentSum side H lines values s v sum

-- the branches of s: among them each tight node with its least cost
pub record AreBranches (side : Side) (H : LevelsAndLegs) (lines : Lines) (values : List ℕ) (s : ℕ) (branches : List Branch) : Type 0 where
  pub sound : (e : Branch) → Contains branches e → IsBranch side H lines values s e.node e.cost e.sum
  pub whole : (v : ℕ) (c : Cost) → IsTight H side s v c → (w : ℕ) × Contains branches (record { node = v; cost = c; sum = w })

-- these stops at a node are branches of targets
abbrev pub AreStopsOf : LevelsAndLegs → Lines → List ℕ → List ℕ → ℕ → List Stop → Type 0
AreStopsOf H lines values targets v stops = (stop : Stop) → Contains stops stop →
    (stop.place < length targets) × IsBranch Down H lines values (slice_index targets stop.place) v stop.cost stop.sum

-- at the slot of each node the branches of the targets
pub record AreStops (H : LevelsAndLegs) (lines : Lines) (values targets names : List ℕ) (stops : List (List Stop)) : Type 0 where
  pub sound : (i : ℕ) → AreStopsOf H lines values targets (slice_index names i) (slice_index_or stops i [])
  pub whole : (c v : ℕ) (cost : Cost) → c < length targets → IsTight H Down (slice_index targets c) v cost →
      (i w : ℕ) × IsSlotOf names v i × Contains (slice_index_or stops i []) (record { place = c; cost = cost; sum = w })

-- the sum of two such costs fits into words
abbrev pub IsSmall : Cost → Type 0
IsSmall cost = (cost.weight ≤ MOST_WEIGHT) × (cost.arcs < 2 ^ 63)

-- a stop of one of n places
abbrev pub IsStopWithin : ℕ → Stop → Type 0
IsStopWithin n stop = (stop.place < n) × IsSmall stop.cost

abbrev pub AreWithin : ℕ → List (List Stop) → Type 0
AreWithin n stops = (i : ℕ) → All (IsStopWithin n) (slice_index_or stops i [])

-- a branch as a stop of place c, after its node
abbrev pub stop_pair : ℕ → Branch → ℕ × Stop
stop_pair c branch = (branch.node, (record { place = c; cost = branch.cost; sum = branch.sum }))

-- branches were appended as stops of place c
abbrev pub AddsStops : ℕ → List Branch → List (ℕ × Stop) → List (ℕ × Stop) → Type 0
AddsStops c branches old new = new ≡ old ++ map (stop_pair c) branches

-- the same as pairs of a node and a stop, of the first n targets
pub record AreStopPairs (H : LevelsAndLegs) (lines : Lines) (values targets : List ℕ) (n : ℕ) (pairs : List (ℕ × Stop)) : Type 0 where
  pub sound : (v : ℕ) (stop : Stop) → Contains pairs (v, stop) →
      (stop.place < n) × IsBranch Down H lines values (slice_index targets stop.place) v stop.cost stop.sum
  pub whole : (c v : ℕ) (cost : Cost) → c < n → IsTight H Down (slice_index targets c) v cost →
      (w : ℕ) × Contains pairs (v, (record { place = c; cost = cost; sum = w }))

-- a branch of s and one of t at a node, with the sum of their costs and that of their sums, if it is known
pub record IsOffer (H : LevelsAndLegs) (lines : Lines) (values : List ℕ) (s t : ℕ) (met : Meeting) : Type 0 where
  pub up : Cost
  pub down : Cost
  pub first : ℕ
  pub second : ℕ
  pub rise : IsBranch Up H lines values s met.node up first
  pub fall : IsBranch Down H lines values t met.node down second
  pub cost : met.cost ≡ cost_sum up down
  pub sum : met.sum ≢ unknown → (first ≢ unknown) × (second ≢ unknown) × (met.sum ≡ first + second)

-- what is known comes first of a meeting at this node and this cost, or before it
abbrev pub Covers : Option Meeting → ℕ → Cost → Type 0
Covers None v cost = ⊥
Covers (Some met) v cost = MeetsFirst (met.cost, met.node) (cost, v)

-- the meeting of place c
abbrev pub met_at : List (Option Meeting) → ℕ → Option Meeting
met_at row c = slice_index_or row c None

-- the meetings of a row are those of s and the targets
abbrev pub AreOffers : LevelsAndLegs → Lines → List ℕ → ℕ → List ℕ → List (Option Meeting) → Type 0
AreOffers H lines values s targets row = (c : ℕ) (met : Meeting) → c < length row → met_at row c ≡ Some met →
    IsOffer H lines values s (slice_index targets c) met

-- what the row covered before it covers still
abbrev pub KeepsCovers : List (Option Meeting) → List (Option Meeting) → Type 0
KeepsCovers old new = (c v : ℕ) (cost : Cost) → Covers (met_at old c) v cost → Covers (met_at new c) v cost

-- it covers the meetings of a branch with the first stops at its node
abbrev pub CoverStops : ℕ → Cost → List Stop → ℕ → List (Option Meeting) → Type 0
CoverStops v cost stops n row = (k : ℕ) (d : Stop) → k < n →
    Covers (met_at row (slice_index_or stops k d).place) v (cost_sum cost (slice_index_or stops k d).cost)

-- it covers those of a branch with all stops at the slot of its node
abbrev pub CoverSlots : ℕ → Cost → List ℕ → List (List Stop) → List (Option Meeting) → Type 0
CoverSlots v cost names stops row = (i : ℕ) → IsSlotOf names v i →
    CoverStops v cost (slice_index_or stops i []) (length (slice_index_or stops i [])) row

-- it covers those of the first branches with all stops
abbrev pub CoverBranches : List Branch → ℕ → List ℕ → List (List Stop) → List (Option Meeting) → Type 0
CoverBranches branches n names stops row = (k : ℕ) (d : Branch) → k < n →
    CoverSlots (slice_index_or branches k d).node (slice_index_or branches k d).cost names stops row

-- of an old meeting and a new one the first, by cost and then by node
pub record IsFirstMet (old : Option Meeting) (new : Meeting) (result : Option Meeting) : Type 0 where
  pub chosen : (result ≡ Some new) ⊎ (result ≡ old)
  pub covers_new : (e : Meeting) × (result ≡ Some e) × MeetsFirst (e.cost, e.node) (new.cost, new.node)
  pub covers_old : (d : Meeting) → old ≡ Some d → (e : Meeting) × (result ≡ Some e) × MeetsFirst (e.cost, e.node) (d.cost, d.node)

-- where a route from s to t would meet, if there is one
pub record IsCell (H : LevelsAndLegs) (lines : Lines) (values : List ℕ) (s t : ℕ) (met : Option Meeting) : Type 0 where
  pub offer : (x : Meeting) → met ≡ Some x → IsOffer H lines values s t x
  pub covers : (v : ℕ) (a b : Cost) → IsTight H Up s v a → IsTight H Down t v b → Covers met v (cost_sum a b)

abbrev pub AreCells : LevelsAndLegs → Lines → List ℕ → ℕ → List ℕ → List (Option Meeting) → Type 0
AreCells H lines values s targets row = (length row ≡ length targets)
    × ((c : ℕ) → c < length targets → IsCell H lines values s (slice_index targets c) (met_at row c))

-- the reason why the cell of s and t was not written
abbrev pub IsCellEnd : Held → List ℕ → ℕ → ℕ → SumsEnd → Type 0
IsCellEnd held values s t SumsEnd.All = ⊥
IsCellEnd held values s t SumsEnd.TooLarge = IsPairTooLarge held values s t
IsCellEnd held values s t SumsEnd.NoMemory = ⊤

-- the first n cells of the row of s have their weights and sums, from the place `first` on
abbrev pub AreRowSums : Held → List ℕ → ℕ → List ℕ → ℕ → List ℕ → List ℕ → ℕ → Type 0
AreRowSums held values s targets first weights sums n = (c : ℕ) → c < n →
    IsPairSum held values s (slice_index targets c) (slice_index weights (first + c)) (slice_index sums (first + c))

-- the reason why no more cells of a row were written
abbrev pub IsRowEnd : Held → List ℕ → ℕ → List ℕ → ℕ → SumsEnd → Type 0
IsRowEnd held values s targets n SumsEnd.All = n ≡ length targets
IsRowEnd held values s targets n SumsEnd.TooLarge = (n < length targets) × IsPairTooLarge held values s (slice_index targets n)
IsRowEnd held values s targets n SumsEnd.NoMemory = n ≤ length targets

-- all cells of a row were written
abbrev pub IsWhole : SumsEnd → Type 0
IsWhole SumsEnd.All = ⊤
IsWhole SumsEnd.TooLarge = ⊥
IsWhole SumsEnd.NoMemory = ⊥

-- not all were
abbrev pub IsEarly : SumsEnd → Type 0
IsEarly SumsEnd.All = ⊥
IsEarly SumsEnd.TooLarge = ⊤
IsEarly SumsEnd.NoMemory = ⊤

-- the first n cells of the table have their weights and sums, row after row
abbrev pub AreTableSums : Held → List ℕ → List ℕ → List ℕ → List ℕ → List ℕ → ℕ → Type 0
AreTableSums held values sources targets weights sums n = (i c : ℕ) → i < length sources → c < length targets →
    i * length targets + c < n → IsPairSum held values (slice_index sources i) (slice_index targets c)
    (slice_index weights (i * length targets + c)) (slice_index sums (i * length targets + c))

-- the reason why no more cells were written
abbrev pub IsTableEnd : Held → List ℕ → List ℕ → List ℕ → ℕ → SumsEnd → Type 0
IsTableEnd held values sources targets n SumsEnd.All = n ≡ length sources * length targets
IsTableEnd held values sources targets n SumsEnd.TooLarge = (i c : ℕ) × (i < length sources) × (c < length targets)
    × (n ≡ i * length targets + c) × IsPairTooLarge held values (slice_index sources i) (slice_index targets c)
IsTableEnd held values sources targets n SumsEnd.NoMemory = n ≤ length sources * length targets

-- so many cells were written, and this is the reason why no more were
abbrev pub AreTableSumsWritten : Held → List ℕ → List ℕ → List ℕ → List ℕ → List ℕ → Summed → Type 0
AreTableSumsWritten held sources targets values weights sums summed =
    AreTableSums held values sources targets weights sums summed.count × IsTableEnd held values sources targets summed.count summed.end

-- the same of the values that are kept
abbrev pub AreKeptSumsWritten : Held → List ℕ → List ℕ → List ℕ → List ℕ → Summed → Type 0
AreKeptSumsWritten held sources targets weights sums summed =
    MatchOption held.values ⊥ (λ values. AreTableSumsWritten held sources targets values weights sums summed)
