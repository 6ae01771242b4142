-- A search without a queue: the legs of the ancestors of its source are taken, one ancestor after the other.
use Rattle.std.specs.Prelude.{◌≡◌, ◌≢◌, ℕ, ◌+◌, ◌<◌, ◌≤◌, ◌⊎◌, List, length, slice_index, slice_set, Contains, Option, Some}
use Rattle.ch_graph.specs.declared.limits.TheConstants.{MOST_WEIGHT}
use Rattle.ch_graph.specs.declared.cost.Cost.{Cost}
use Rattle.ch_graph.specs.Cost.{cost_sum, no_cost, cost_at}
use Rattle.ch_hierarchy.specs.declared.leg.Leg.{Leg}
use Rattle.ch_hierarchy.specs.declared.side.Side.{Side}
use Rattle.ch_hierarchy.specs.Rows.{row}
use Rattle.ch_hierarchy.specs.Side.{rows_of}
use Rattle.ch_hierarchy.specs.Hierarchy.{LevelsAndLegs, nodes_of, IsLevelled}
use Rattle.ch_hierarchy.specs.Ranked.{rank_of}
use Rattle.ch_query.specs.declared.question.Question.{Question}
use Rattle.ch_query.specs.declared.sides.search.Search.{Search}
use Rattle.ch_query.specs.ByNode.{costs_of, parents_of}
use Rattle.ch_query.specs.Meeting.{IsFoundBy}
use Rattle.ch_query.specs.Parents.{IsNoEarlier}
use Rattle.ch_query.specs.Search.{IsUpwardCost, IsRelaxedFrom, IsEmpty, WouldLower}
use Rattle.ch_query.specs.TwoSided.{MeetsFirst}
use Rattle.ch_query.specs.Underway.{IsSized, IsTouched}

-- the rank of v is one of the first `count`
abbrev pub IsAmong : LevelsAndLegs → List ℕ → ℕ → ℕ → Type 0
IsAmong H ranks count v = (i : ℕ) × (i < count) × (i < length ranks) × (slice_index ranks i ≡ rank_of H v)

-- the ranks fall, the first is that of s, and each leg of one of their nodes leads to another one
pub record AreAncestors (H : LevelsAndLegs) (side : Side) (s : ℕ) (ranks : List ℕ) : Type 0 where
  pub first : (0 < length ranks) × (slice_index ranks 0 ≡ rank_of H s)
  pub within : (i : ℕ) → i < length ranks → slice_index ranks i < nodes_of H
  pub falls : (i j : ℕ) → i < j → j < length ranks → slice_index ranks j < slice_index ranks i
  pub legs : (v : ℕ) (l : Leg) → v < nodes_of H → IsAmong H ranks (length ranks) v → Contains (row (rows_of H side) v) l →
      IsAmong H ranks (length ranks) l.node

-- the change of costs and parents when a leg of v, at cost c, is taken without a queue. Either no cost falls, and the lesser
-- parent stays. Or the leg's node gets the sum, and v as parent
abbrev pub Takes : ℕ → List (Option Cost) → List ℕ → ℕ → Cost → Leg → List (Option Cost) → List ℕ → Type 0
Takes most best parents v c l best' parents' =
    ((best' ≡ best) × IsRelaxedFrom most best c l
    × (((c.weight + l.cost.weight ≤ most → cost_at best l.node ≡ Some (cost_sum c l.cost) → slice_index parents l.node ≤ v)
    × (parents' ≡ parents))
    ⊎ ((cost_at best l.node ≡ Some (cost_sum c l.cost)) × (v < slice_index parents l.node) × (parents' ≡ slice_set parents l.node v))))
    ⊎ ((c.weight + l.cost.weight ≤ most) × WouldLower best l.node (cost_sum c l.cost)
    × (best' ≡ slice_set best l.node (Some (cost_sum c l.cost))) × (parents' ≡ slice_set parents l.node v))

-- a leg from p, whose cost is final, gives x its cost
pub record IsLedBy (rows : List (List Leg)) (Final : ℕ → Type 0) (best : List (Option Cost)) (x : ℕ) (e : Cost) (p : ℕ) : Type 0 where
  pub cost : Cost
  pub final : Final p
  pub known : cost_at best p ≡ Some cost
  pub leg : Leg
  pub has : Contains (row rows p) leg
  pub node : leg.node ≡ x
  pub sum : cost_sum cost leg.cost ≡ e

-- the known costs are those of paths from s, the legs of taken nodes were taken, and each node but s has a parent
pub record IsPass (rows : List (List Leg)) (s : ℕ) (Taken Final : ℕ → Type 0) (best : List (Option Cost)) (parents : List ℕ) : Type 0 where
  pub size : length parents ≡ length best
  pub start : cost_at best s ≡ Some no_cost
  pub sound : (v : ℕ) (c : Cost) → cost_at best v ≡ Some c → IsUpwardCost rows s v c
  pub taken : (v : ℕ) (c : Cost) → Taken v → cost_at best v ≡ Some c → (l : Leg) → Contains (row rows v) l →
      IsRelaxedFrom MOST_WEIGHT best c l × IsNoEarlier MOST_WEIGHT best parents v c l
  pub led : (x : ℕ) (e : Cost) → x ≢ s → cost_at best x ≡ Some e → IsLedBy rows Final best x e (slice_index parents x)

-- these legs of v, at cost c, were taken in the pass
pub record IsPartPass (rows : List (List Leg)) (s : ℕ) (Taken Final : ℕ → Type 0) (best : List (Option Cost)) (parents : List ℕ)
    (v : ℕ) (c : Cost) (legs : List Leg) : Type 0 where
  pub pass : IsPass rows s Taken Final best parents
  pub known : cost_at best v ≡ Some c
  pub relaxed : (l : Leg) → Contains legs l → IsRelaxedFrom MOST_WEIGHT best c l × IsNoEarlier MOST_WEIGHT best parents v c l

-- a search that has no queue. It has reached some of these nodes and no others
pub record IsUnqueued (H : LevelsAndLegs) (ranks : List ℕ) (x : Search) : Type 0 where
  pub levelled : IsLevelled H
  pub sizes : IsSized (nodes_of H) x
  pub touched : IsTouched x.labels.costs x.touched
  pub queue : IsEmpty x.queue
  pub listed : (v : ℕ) (c : Cost) → cost_at (costs_of H x) v ≡ Some c → IsAmong H ranks (length ranks) v

-- the legs of the first `count` ancestors were taken
pub record IsClimbing (H : LevelsAndLegs) (q : Question) (ranks : List ℕ) (count : ℕ) (x : Search) : Type 0 where
  pub search : IsUnqueued H ranks x
  pub pass : IsPass (rows_of H q.side) q.source (IsAmong H ranks count) (IsAmong H ranks count) (costs_of H x) (parents_of H x)

-- so were these legs of the next ancestor v, whose cost is c
pub record IsTakingLegs (H : LevelsAndLegs) (q : Question) (ranks : List ℕ) (count v : ℕ) (c : Cost) (legs : List Leg)
    (x : Search) : Type 0 where
  pub search : IsUnqueued H ranks x
  pub part : IsPartPass (rows_of H q.side) q.source (IsAmong H ranks count) (IsAmong H ranks (count + 1)) (costs_of H x)
      (parents_of H x) v c legs

-- the least sum is at most that of each of the first `count` nodes that both searches have reached, and is that of two paths
pub record AreMetTo (H : LevelsAndLegs) (q r : Question) (ranks : List ℕ) (count : ℕ) (x y : Search) (least : Option (Cost × ℕ)) : Type 0
  where
    pub seen : (v : ℕ) (a b : Cost) → IsAmong H ranks count v → cost_at (costs_of H x) v ≡ Some a → cost_at (costs_of H y) v ≡ Some b →
        (e : Cost × ℕ) × (least ≡ Some e) × MeetsFirst e (cost_sum a b, v)
    pub found : IsFoundBy H q r least
