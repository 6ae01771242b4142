-- A search for distances as the program keeps it: by weights alone, and with both directions at once.
use Rattle.std.specs.Prelude.{◌≡◌, ◌≢◌, ℕ, ◌+◌, ◌-◌, ◌*◌, ◌<◌, ◌≤◌, ◌⊎◌, if◌then◌else◌, nat_eq, List, length, map, slice_index}
use Rattle.std.specs.Prelude.{slice_index_or, slice_set, AllPairs, Contains, Option, Some, None, vec_len}
use Rattle.std.specs.Option.{option_map}
use Rattle.ch_graph.specs.declared.cost.TheConstants.{UNREACHED}
use Rattle.ch_graph.specs.declared.limits.TheConstants.{MOST_WEIGHT}
use Rattle.ch_graph.specs.declared.cost.Cost.{Cost}
use Rattle.ch_hierarchy.specs.declared.leg.Leg.{Leg}
use Rattle.ch_hierarchy.specs.Hierarchy.{LevelsAndLegs, nodes_of, IsLevelled}
use Rattle.ch_hierarchy.specs.Ranked.{rank_of}
use Rattle.ch_hierarchy.specs.declared.side.Side.{Side}
use Rattle.ch_hierarchy.specs.declared.side.Side.TheVariants.{Up, Down}
use Rattle.ch_hierarchy.specs.Side.{rows_of, other, state_of}
use Rattle.ch_query.specs.declared.question.Ends.{Ends}
use Rattle.ch_query.specs.declared.weights.search.WeightSearch.{WeightSearch}
use Rattle.ch_query.specs.Search.{IsSettled, IsRelaxedFrom, IsUpwardCost, IsExpanding, OrNode, IsStalled, IsEmpty, count_unsettled}
use Rattle.ch_query.specs.Underway.{IsTouched}
use Rattle.ch_query.specs.Weighed.{weighed, IsWeightSearchTo}

-- a weight as a cost
abbrev pub weight_cost : ℕ → Cost
weight_cost w = record { weight = w; arcs = 0 }

-- the cost that the weight of a state stands for
abbrev pub known_cost : ℕ → Option Cost
known_cost w = if nat_eq w UNREACHED then None else Some (weight_cost w)

-- the values of the states of one side, as a list by node; a node of level l has rank n - l
abbrev pub by_state : {A B : Type 0} → (A → B) → LevelsAndLegs → Side → List A → A → List B
by_state f H side list default = map (λ level. f (slice_index_or list (state_of side (nodes_of H - level)) default)) H.level

-- the costs that one side knows, by node
abbrev pub side_costs : LevelsAndLegs → Side → WeightSearch → List (Option Cost)
side_costs H side x = by_state known_cost H side x.known.items UNREACHED

-- the keys of its states, by node
abbrev pub side_keys : LevelsAndLegs → Side → WeightSearch → List (Option Cost)
side_keys H side x = by_state (option_map weight_cost) H side x.queue None

-- the node where a side begins
abbrev pub source_of : Ends → Side → ℕ
source_of ends Up = ends.start
source_of ends Down = ends.end

-- v need not be expanded at this cost
abbrev pub is_idle_on : LevelsAndLegs → Side → ℕ → ℕ → Cost → Type 0
is_idle_on H side s = IsStalled (rows_of (weighed H) side) (rows_of (weighed H) (other side)) s

-- the lists have two states for each of n nodes, and there is room to list all reached states
pub record IsSizedFor (n : ℕ) (x : WeightSearch) : Type 0 where
  pub known : length x.known.items ≡ 2 * n
  pub queue : length x.queue ≡ 2 * n
  pub touched : IsTouched (map known_cost x.known.items) x.touched

-- a search that has begun on this side, in the state between one settled state and the next
pub record IsWeighingOn (H : LevelsAndLegs) (ends : Ends) (side : Side) (x : WeightSearch) : Type 0 where
  pub levelled : IsLevelled H
  pub sizes : IsSizedFor (nodes_of H) x
  pub search : IsWeightSearchTo ends.most H side (source_of ends side) (side_costs H side x) (side_keys H side x)

-- a search that has begun on both sides, for all paths
pub record IsWeighing (H : LevelsAndLegs) (ends : Ends) (x : WeightSearch) : Type 0 where
  pub most : ends.most ≡ MOST_WEIGHT
  pub sides : (side : Side) → IsWeighingOn H ends side x

-- a search that is taking the legs of v on one side, where v was settled last, at this weight
pub record IsWeighingAt (H : LevelsAndLegs) (ends : Ends) (side : Side) (x : WeightSearch) (v weight : ℕ) : Type 0 where
  pub levelled : IsLevelled H
  pub sizes : IsSizedFor (nodes_of H) x
  pub within : v < nodes_of H
  pub here : IsExpanding ends.most (rows_of (weighed H) side) (source_of ends side) (OrNode (is_idle_on H side (source_of ends side)) v)
      (side_costs H side x) (side_keys H side x) v (weight_cost weight)

-- this side has the same costs and keys as before
pub record IsSameSide (H : LevelsAndLegs) (side : Side) (x y : WeightSearch) : Type 0 where
  pub costs : side_costs H side y ≡ side_costs H side x
  pub keys : side_keys H side y ≡ side_keys H side x

-- each node that is settled on this side in y was settled in x, at the same cost
abbrev pub KeepsSide : LevelsAndLegs → Side → WeightSearch → WeightSearch → Type 0
KeepsSide H side x y =
    (v : ℕ) (c : Cost) → IsSettled (side_costs H side y) (side_keys H side y) v c → IsSettled (side_costs H side x) (side_keys H side x) v c

-- the number of states of this side that are not settled
abbrev pub count_unsettled_on : LevelsAndLegs → Side → WeightSearch → ℕ
count_unsettled_on H side x = count_unsettled (side_costs H side x) (side_keys H side x)

-- the number of states that are not settled
abbrev pub count_unsettled_states : LevelsAndLegs → WeightSearch → ℕ
count_unsettled_states H x = count_unsettled_on H Up x + count_unsettled_on H Down x

-- y is x after this side has gone on from the state that it settled last: the other side and all settled states stay
-- the same
pub record HasGoneOn (H : LevelsAndLegs) (ends : Ends) (side : Side) (x y : WeightSearch) : Type 0 where
  pub weighing : IsWeighingOn H ends side y
  pub there : IsSameSide H (other side) x y
  pub settled : KeepsSide H side x y
  pub stays : KeepsSide H side y x
  pub measure : count_unsettled_on H side y ≡ count_unsettled_on H side x

-- a state that is not reached has no key
abbrev pub UnreachedStateIsUnkeyed : WeightSearch → ℕ → Type 0
UnreachedStateIsUnkeyed x state = slice_index x.known.items state ≡ UNREACHED → slice_index_or x.queue state None ≡ None

-- the change when a state is offered this weight: nothing, if no less is known or it is above the limit; otherwise
-- the state gets it as weight and key
abbrev pub ShowsWeight : ℕ → WeightSearch → ℕ → ℕ → WeightSearch → Type 0
ShowsWeight most x state weight y =
    ((y.known.items ≡ x.known.items) × (y.queue ≡ x.queue) × (weight ≤ most → slice_index x.known.items state ≤ weight))
    ⊎ ((weight ≤ most) × (weight < slice_index x.known.items state) × (y.known.items ≡ slice_set x.known.items state weight)
    × (y.queue ≡ slice_set x.queue state (Some weight)))

-- y is the search x after these legs of v were taken
pub record IsPartlyWeighed (H : LevelsAndLegs) (ends : Ends) (side : Side) (x y : WeightSearch) (v weight : ℕ) (legs : List Leg) :
    Type 0 where
  pub weighing : IsWeighingAt H ends side y v weight
  pub relaxed : (l : Leg) → Contains legs l → IsRelaxedFrom ends.most (side_costs H side y) (weight_cost weight) l
  pub there : IsSameSide H (other side) x y
  pub settled : KeepsSide H side x y
  pub stays : KeepsSide H side y x
  pub measure : count_unsettled_on H side y ≡ count_unsettled_on H side x

-- a search for n nodes with nothing left from an earlier search
pub record IsCleanFor (n : ℕ) (x : WeightSearch) : Type 0 where
  pub sizes : IsSizedFor n x
  pub queue : (state weight : ℕ) → slice_index_or x.queue state None ≡ Some weight → ⊥
  pub nothing : vec_len x.touched ≡ 0

-- the least sum is at most that of each node that both sides have settled, and if there is one, it is the sum of two
-- paths
pub record IsLeastSoFar (H : LevelsAndLegs) (ends : Ends) (x : WeightSearch) (least : ℕ) : Type 0 where
  pub weighing : IsWeighing H ends x
  pub small : least ≤ UNREACHED
  pub seen : (v : ℕ) (a b : Cost) → IsSettled (side_costs H Up x) (side_keys H Up x) v a →
      IsSettled (side_costs H Down x) (side_keys H Down x) v b → least ≤ a.weight + b.weight
  pub found : least < UNREACHED →
      (v : ℕ) × (a b : Cost) × IsUpwardCost (rows_of (weighed H) Up) ends.start v a × IsUpwardCost (rows_of (weighed H) Down) ends.end v b
      × (a.weight + b.weight ≡ least)

-- each remaining key is at least this
abbrev pub AreKeysFrom : List (Option ℕ) → ℕ → Type 0
AreKeysFrom queue least = (state weight : ℕ) → slice_index_or queue state None ≡ Some weight → least ≤ weight

-- the state of least weight, with that weight
pub record IsLeastState (queue : List (Option ℕ)) (e : ℕ × ℕ) : Type 0 where
  pub has : slice_index_or queue e.1 None ≡ Some e.0
  pub least : AreKeysFrom queue e.0

-- P holds of the node of this rank
abbrev pub AtRank : LevelsAndLegs → ℕ → (ℕ → Type 0) → Type 0
AtRank H rank P = (v : ℕ) → v < nodes_of H → rank_of H v ≡ rank → P v

-- a search without the key of this state
abbrev pub without_state : WeightSearch → ℕ → WeightSearch
without_state x state = record x { queue = slice_set x.queue state None }

-- ranks and weights of settled states of one side, each rank once, and among them all states that need to be expanded
pub record AreUnstalledOn (H : LevelsAndLegs) (ends : Ends) (side : Side) (x : WeightSearch) (list : List (ℕ × ℕ)) : Type 0 where
  pub distinct : AllPairs (λ a b. a.0 ≢ b.0) list
  pub settled : (rank weight : ℕ) → Contains list (rank, weight) →
      (v : ℕ) × (v < nodes_of H) × (rank_of H v ≡ rank) × IsSettled (side_costs H side x) (side_keys H side x) v (weight_cost weight)
  pub whole : (v : ℕ) (c : Cost) → IsSettled (side_costs H side x) (side_keys H side x) v c →
      is_idle_on H side (source_of ends side) v c ⊎ Contains list (rank_of H v, c.weight)

-- no state of this side is settled
abbrev pub IsFreshOn : LevelsAndLegs → Side → WeightSearch → Type 0
IsFreshOn H side x = (v : ℕ) (c : Cost) → IsSettled (side_costs H side x) (side_keys H side x) v c → ⊥

-- no state is settled
abbrev pub IsUnsettled : LevelsAndLegs → WeightSearch → Type 0
IsUnsettled H x = (side : Side) → IsFreshOn H side x

-- a search that has begun on this side alone, and has settled nothing
pub record HasBegunOn (H : LevelsAndLegs) (ends : Ends) (side : Side) (x : WeightSearch) : Type 0 where
  pub weighing : IsWeighingOn H ends side x
  pub alone : IsEmpty (side_keys H (other side) x)
  pub fresh : IsFreshOn H side x
