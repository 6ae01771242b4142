-- One side of a query, as the program keeps it.
use Rattle.std.specs.Prelude.{◌≡◌, ◌≢◌, ℕ, ◌<◌, ◌≤◌, Bool, true, false, List, [], length, AllPairs, Contains, Option, None, is_some}
use Rattle.std.specs.Prelude.{Vec, vec_len, vec_capacity}
use Rattle.std.specs.List.{count_by}
use Rattle.std.specs.declared.alloc.Global.{Global}
use Rattle.ch_graph.specs.declared.cost.Cost.{Cost}
use Rattle.ch_hierarchy.specs.declared.leg.Leg.{Leg}
use Rattle.ch_hierarchy.specs.Hierarchy.{LevelsAndLegs, nodes_of, IsLevelled}
use Rattle.ch_query.specs.declared.question.Question.{Question}
use Rattle.ch_query.specs.declared.sides.search.Search.{Search}
use Rattle.ch_hierarchy.specs.declared.ranked.RankedLeg.{RankedLeg}
use Rattle.ch_hierarchy.specs.declared.side.Side.{Side}
use Rattle.ch_hierarchy.specs.Side.{rows_of, other}
use Rattle.ch_query.specs.ByNode.{costs_of, keys_of, parents_of}
use Rattle.ch_query.specs.Parents.{AreParents, IsNoEarlier}
use Rattle.ch_graph.specs.Cost.{cost_at}
use Rattle.ch_query.specs.Search.{IsSettled, IsSearch, IsExpanding, OrNode, IsStalled, IsEmpty, IsRelaxedFrom, Relaxes, count_unsettled}

-- the legs that show a cheaper way to a search that stalls: those from higher nodes back to a node
abbrev pub back_of : LevelsAndLegs → Side → Bool → List (List Leg)
back_of H side false = []
back_of H side true = rows_of H (other side)

-- the nodes that have a cost, each once, with room for all nodes
pub record IsTouched (best : List (Option Cost)) (touched : Vec ℕ Global) : Type 0 where
  pub room : length best ≤ vec_capacity touched
  pub count : vec_len touched ≡ count_by is_some best
  pub reached : (v : ℕ) → Contains touched.items v → is_some (cost_at best v) ≡ true
  pub listed : (v : ℕ) → is_some (cost_at best v) ≡ true → Contains touched.items v
  pub distinct : AllPairs ◌≢◌ touched.items

-- the lists have the same number of nodes, and the touched nodes are those with a cost
pub record IsRoom (x : Search) : Type 0 where
  pub queue : length x.queue ≡ length x.labels.costs
  pub parents : length x.labels.parents ≡ length x.labels.costs
  pub touched : IsTouched x.labels.costs x.touched

-- if the node of this rank is not reached, it has no key
abbrev pub UnreachedIsUnkeyed : Search → ℕ → Type 0
UnreachedIsUnkeyed x rank = cost_at x.labels.costs rank ≡ None → cost_at x.queue rank ≡ None

-- the lists of the search are for n nodes
abbrev pub IsSized : ℕ → Search → Type 0
IsSized n x = (length x.labels.costs ≡ n) × (length x.queue ≡ n) × (length x.labels.parents ≡ n)

-- the number of nodes that are not settled
abbrev pub count_unsettled_in : LevelsAndLegs → Search → ℕ
count_unsettled_in H x = count_unsettled (costs_of H x) (keys_of H x)

-- v need not be expanded at this cost
abbrev pub idle_of : LevelsAndLegs → Question → ℕ → Cost → Type 0
idle_of H q v c = IsStalled (rows_of H q.side) (back_of H q.side q.stalls) q.source v c

-- a search for this question in the state between one settled node and the next
pub record IsUnderway (H : LevelsAndLegs) (q : Question) (x : Search) : Type 0 where
  pub levelled : IsLevelled H
  pub sizes : IsSized (nodes_of H) x
  pub search : IsSearch q.most (rows_of H q.side) q.source (idle_of H q) (costs_of H x) (keys_of H x)
  pub parents : AreParents q.most (rows_of H q.side) q.source (idle_of H q) (costs_of H x) (keys_of H x) (parents_of H x)
  pub touched : IsTouched x.labels.costs x.touched

-- the same for some question
abbrev pub IsUnderwayBySome : LevelsAndLegs → Search → Type 0
IsUnderwayBySome H x = (q : Question) × IsUnderway H q x

-- a search that is taking the legs of v, which was settled last, at cost c
pub record IsExpandingAt (H : LevelsAndLegs) (q : Question) (x : Search) (v : ℕ) (c : Cost) : Type 0 where
  pub levelled : IsLevelled H
  pub sizes : IsSized (nodes_of H) x
  pub within : v < nodes_of H
  pub search : IsExpanding q.most (rows_of H q.side) q.source (OrNode (idle_of H q) v) (costs_of H x) (keys_of H x) v c
  pub parents : AreParents q.most (rows_of H q.side) q.source (OrNode (idle_of H q) v) (costs_of H x) (keys_of H x) (parents_of H x)
  pub touched : IsTouched x.labels.costs x.touched

-- the leg as the lists by rank see it: its node is the rank
abbrev pub leg_of_ranked : RankedLeg → Leg
leg_of_ranked r = record { node = r.rank; cost = record { weight = r.weight; arcs = r.arcs }; middle = None }

-- the change of the lists by rank when a leg of v, settled at cost c, is taken
abbrev pub RelaxesByRank : ℕ → Search → ℕ → Cost → RankedLeg → Search → Type 0
RelaxesByRank most x v c r y =
    Relaxes most x.labels.costs x.queue x.labels.parents v c (leg_of_ranked r) y.labels.costs y.queue y.labels.parents

-- the change of the lists by node when a leg of v, settled at cost c, is taken
abbrev pub RelaxesIn : LevelsAndLegs → ℕ → Search → ℕ → Cost → Leg → Search → Type 0
RelaxesIn H most x v c l y = Relaxes most (costs_of H x) (keys_of H x) (parents_of H x) v c l (costs_of H y) (keys_of H y) (parents_of H y)

-- each node that is settled in y was settled in x, at the same cost
abbrev pub KeepsSettled : LevelsAndLegs → Search → Search → Type 0
KeepsSettled H x y = (v : ℕ) (c : Cost) → IsSettled (costs_of H y) (keys_of H y) v c → IsSettled (costs_of H x) (keys_of H x) v c

-- y is the search x after these legs of v were taken
pub record IsPartlyExpanded (H : LevelsAndLegs) (q : Question) (x y : Search) (v : ℕ) (c : Cost) (legs : List Leg) : Type 0 where
  pub expanding : IsExpandingAt H q y v c
  pub relaxed : (l : Leg) → Contains legs l →
      IsRelaxedFrom q.most (costs_of H y) c l × IsNoEarlier q.most (costs_of H y) (parents_of H y) v c l
  pub settled : KeepsSettled H x y
  pub measure : count_unsettled_in H y ≡ count_unsettled_in H x

-- a search for n nodes with nothing left from an earlier search
pub record IsClean (n : ℕ) (x : Search) : Type 0 where
  pub nodes : length x.labels.costs ≡ n
  pub room : IsRoom x
  pub queue : IsEmpty x.queue
  pub nothing : vec_len x.touched ≡ 0
