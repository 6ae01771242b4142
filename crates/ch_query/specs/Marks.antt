-- The marks of a search by weights alone: for each state the node before it on a lightest path, or that there are two.
use Rattle.std.specs.Prelude.{◌≡◌, ◌≢◌, ℕ, ◌+◌, ◌*◌, ◌<◌, ◌≤◌, ◌⊎◌, List, length, slice_index, slice_set, Contains, Some}
use Rattle.ch_graph.specs.declared.cost.TheConstants.{UNREACHED}
use Rattle.ch_graph.specs.declared.cost.Cost.{Cost}
use Rattle.ch_graph.specs.Cost.{cost_sum, cost_at}
use Rattle.ch_hierarchy.specs.declared.leg.Leg.{Leg}
use Rattle.ch_hierarchy.specs.Rows.{row}
use Rattle.ch_hierarchy.specs.Hierarchy.{LevelsAndLegs, nodes_of}
use Rattle.ch_hierarchy.specs.Ranked.{rank_of}
use Rattle.ch_hierarchy.specs.Paths.{IsMeeting, NeverMeets}
use Rattle.ch_hierarchy.specs.KeptLaws.{IsLeastMeeting}
use Rattle.ch_hierarchy.specs.declared.side.Side.{Side}
use Rattle.ch_hierarchy.specs.declared.side.Side.TheVariants.{Up, Down}
use Rattle.ch_hierarchy.specs.Side.{rows_of, state_of}
use Rattle.ch_query.specs.declared.question.Ends.{Ends}
use Rattle.ch_query.specs.declared.weights.search.WeightSearch.{WeightSearch}
use Rattle.ch_query.specs.declared.weights.marked.LeastSum.{LeastSum}
use Rattle.ch_query.specs.declared.weights.marked.TheConstants.{TIED}
use Rattle.ch_query.specs.Search.{IsSettled, OrNode}
use Rattle.ch_query.specs.SearchSpace.{IsTight}
use Rattle.ch_query.specs.Weighed.{weighed}
use Rattle.ch_query.specs.Weights.{side_costs, side_keys, source_of, is_idle_on, IsLeastSoFar}

-- the mark names the node of this rank, or says that there is a tie
abbrev pub Allows : ℕ → ℕ → Type 0
Allows mark rank = (mark ≡ TIED) ⊎ (mark ≡ rank)

-- the mark of a node on this side
abbrev pub mark_of : LevelsAndLegs → Side → List ℕ → ℕ → ℕ
mark_of H side marks v = slice_index marks (state_of side (rank_of H v))

-- if the leg l from u, which costs c, gives its end the known cost, the mark of that end allows u
abbrev pub IsMarkedFrom : LevelsAndLegs → Side → WeightSearch → List ℕ → ℕ → Cost → Leg → Type 0
IsMarkedFrom H side x marks u c l =
    cost_at (side_costs H side x) l.node ≡ Some (cost_sum c l.cost) → Allows (mark_of H side marks l.node) (rank_of H u)

-- for each settled node this holds of all its legs, or the node is idle
abbrev pub AreMarkedOr : (ℕ → Cost → Type 0) → LevelsAndLegs → Side → WeightSearch → List ℕ → Type 0
AreMarkedOr Idle H side x marks = (u : ℕ) (c : Cost) → IsSettled (side_costs H side x) (side_keys H side x) u c →
    Idle u c ⊎ ((l : Leg) → Contains (row (rows_of (weighed H) side) u) l → IsMarkedFrom H side x marks u c l)

-- the marks of one side of a search between one settled state and the next
abbrev pub AreMarked : LevelsAndLegs → Ends → Side → WeightSearch → List ℕ → Type 0
AreMarked H ends side x marks = AreMarkedOr (is_idle_on H side (source_of ends side)) H side x marks

-- the same while the legs of v are being taken
abbrev pub AreMarkedBut : LevelsAndLegs → Ends → Side → WeightSearch → List ℕ → ℕ → Type 0
AreMarkedBut H ends side x marks v = AreMarkedOr (OrNode (is_idle_on H side (source_of ends side)) v) H side x marks

-- there are as many marks as before, and those of this side are the same
pub record KeepsMarks (side : Side) (old new : List ℕ) : Type 0 where
  pub count : length new ≡ length old
  pub same : (rank : ℕ) → slice_index new (state_of side rank) ≡ slice_index old (state_of side rank)

-- the change when the node of this rank offers a weight to a state. At the known weight the state is tied, and otherwise it
-- is marked with the rank if it gets the weight
abbrev pub ShowsMark : ℕ → WeightSearch → List ℕ → ℕ → ℕ → ℕ → WeightSearch → List ℕ → Type 0
ShowsMark most x old state weight rank y new =
    ((weight ≡ slice_index x.known.items state) × (y.known.items ≡ x.known.items) × (y.queue ≡ x.queue)
    × (new ≡ slice_set old state TIED))
    ⊎ ((weight ≢ slice_index x.known.items state) × (y.known.items ≡ x.known.items) × (y.queue ≡ x.queue)
    × (weight ≤ most → slice_index x.known.items state ≤ weight) × (new ≡ old))
    ⊎ ((weight ≤ most) × (weight < slice_index x.known.items state) × (y.known.items ≡ slice_set x.known.items state weight)
    × (y.queue ≡ slice_set x.queue state (Some weight)) × (new ≡ slice_set old state rank))

-- the least sum after a node of this rank has one: its rank stays only while no other node has the same sum
pub record IsAdded (old : LeastSum) (weight rank : ℕ) (new : LeastSum) : Type 0 where
  pub low : (new.weight ≤ old.weight) × (new.weight ≤ weight)
  pub either : (new.weight ≡ old.weight) ⊎ (new.weight ≡ weight)
  pub here : new.weight ≡ weight → Allows new.rank rank
  pub kept : new.weight ≡ old.weight → Allows new.rank old.rank

-- the least sum so far, and marks: its rank allows each node that both sides have settled at that sum
pub record IsLeastMarked (H : LevelsAndLegs) (ends : Ends) (x : WeightSearch) (marks : List ℕ) (least : LeastSum) : Type 0 where
  pub sum : IsLeastSoFar H ends x least.weight
  pub count : length marks ≡ 2 * nodes_of H
  pub marked : (side : Side) → AreMarked H ends side x marks
  pub meets : (v : ℕ) (a b : Cost) → IsSettled (side_costs H Up x) (side_keys H Up x) v a →
      IsSettled (side_costs H Down x) (side_keys H Down x) v b → a.weight + b.weight ≡ least.weight → Allows least.rank (rank_of H v)

-- the mark of each tight node that weighs at most `most` allows each node that is before it on a least path from s
abbrev pub LeadBack : LevelsAndLegs → Side → ℕ → ℕ → List ℕ → Type 0
LeadBack H side s most marks = (u : ℕ) (c : Cost) (l : Leg) → IsTight H side s u c → Contains (row (rows_of H side) u) l →
    IsTight H side s l.node (cost_sum c l.cost) → c.weight + l.cost.weight ≤ most →
    Allows (mark_of H side marks l.node) (rank_of H u)

-- the least weight of going up from s and down to t, if there is one. The rank allows each node where two paths of least cost
-- meet, and the marks lead back from there to both ends
pub record IsMarkedWay (H : LevelsAndLegs) (s t : ℕ) (marks : List ℕ) (least : LeastSum) : Type 0 where
  pub count : length marks ≡ 2 * nodes_of H
  pub none : least.weight ≡ UNREACHED → NeverMeets H s t
  pub some : least.weight ≢ UNREACHED → (c : Cost) × IsLeastMeeting H s t c × (c.weight ≡ least.weight)
  pub meets : (n : ℕ) (c : Cost) → IsLeastMeeting H s t c → IsMeeting H s t n c → Allows least.rank (rank_of H n)
  pub back : LeadBack H Up s least.weight marks × LeadBack H Down t least.weight marks

-- the node m is tight, and the marks lead back from there
abbrev pub HasWayBack : LevelsAndLegs → Side → ℕ → ℕ → List ℕ → Type 0
HasWayBack H side s m marks = (c : Cost) × IsTight H side s m c × LeadBack H side s c.weight marks
