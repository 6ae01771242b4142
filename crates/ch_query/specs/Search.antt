-- One side of a query, as data: the cost of a path to each node, and the queue of the nodes that are not settled.
use Rattle.std.specs.Prelude.{◌≡◌, ℕ, ◌+◌, ◌<◌, ◌≤◌, ◌⊎◌, Bool, true, false, List, length, slice_index, slice_set, Contains, Option}
use Rattle.std.specs.Prelude.{Some, None, is_some}
use Rattle.std.specs.List.{count_by}
use Rattle.ch_graph.specs.declared.limits.TheConstants.{MOST_WEIGHT}
use Rattle.ch_graph.specs.declared.cost.Cost.{Cost}
use Rattle.ch_graph.specs.Cost.{IsAtMost, IsBelow, cost_sum, no_cost, cost_at}
use Rattle.ch_hierarchy.specs.declared.leg.Leg.{Leg}
use Rattle.ch_hierarchy.specs.Rows.{row}
use Rattle.ch_hierarchy.specs.Paths.{IsUpwardPath, path_cost}

-- v was taken out of the queue at cost c
abbrev pub IsSettled : List (Option Cost) → List (Option Cost) → ℕ → Cost → Type 0
IsSettled best queue v c = (cost_at best v ≡ Some c) × (cost_at queue v ≡ None)

-- a leg taken from a node of cost c shows no lower cost than the known one, if the sum weighs at most `most`
abbrev pub IsRelaxedFrom : ℕ → List (Option Cost) → Cost → Leg → Type 0
IsRelaxedFrom most best c l = c.weight + l.cost.weight ≤ most → (e : Cost) × (cost_at best l.node ≡ Some e) × IsAtMost e (cost_sum c l.cost)

-- some upward path from s to v costs c, and weighs at most MOST_WEIGHT
pub record IsUpwardCost (rows : List (List Leg)) (s v : ℕ) (c : Cost) : Type 0 where
  pub path : (legs : List Leg) × IsUpwardPath rows s v legs × (path_cost legs ≡ c)
  pub weight : c.weight ≤ MOST_WEIGHT

-- a search from s for paths of weight at most `most`; the legs of a node that is idle at its cost need not be taken
pub record IsSearch (most : ℕ) (rows : List (List Leg)) (s : ℕ) (Idle : ℕ → Cost → Type 0) (best queue : List (Option Cost)) : Type 0 where
  pub limits : most ≤ MOST_WEIGHT
  pub sizes : (length best ≡ length rows) × (length queue ≡ length rows)
  pub start : cost_at best s ≡ Some no_cost
  pub sound : (v : ℕ) (c : Cost) → cost_at best v ≡ Some c → IsUpwardCost rows s v c
  pub light : (v : ℕ) (c : Cost) → cost_at best v ≡ Some c → c.weight ≤ most
  pub queued : (v : ℕ) (c : Cost) → cost_at queue v ≡ Some c → cost_at best v ≡ Some c
  -- no settled node costs more than a queued one
  pub order : (v w : ℕ) (c d : Cost) → IsSettled best queue v c → cost_at queue w ≡ Some d → IsAtMost c d
  -- the legs of a settled node were taken, or the node is idle
  pub frontier : (v : ℕ) (c : Cost) → IsSettled best queue v c →
      Idle v c ⊎ ((l : Leg) → Contains (row rows v) l → IsRelaxedFrom most best c l)

-- v is a node in the queue with the least key, which is c
pub record IsLeastKey (queue : List (Option Cost)) (v : ℕ) (c : Cost) : Type 0 where
  pub has : cost_at queue v ≡ Some c
  pub least : (x : ℕ) (d : Cost) → cost_at queue x ≡ Some d → IsAtMost c d

-- v was settled last, at cost c, and its legs are being taken
pub record IsExpanding (most : ℕ) (rows : List (List Leg)) (s : ℕ) (Idle : ℕ → Cost → Type 0) (best queue : List (Option Cost))
    (v : ℕ) (c : Cost) : Type 0 where
  pub search : IsSearch most rows s Idle best queue
  pub here : IsSettled best queue v c
  pub latest : (x : ℕ) (a : Cost) → IsSettled best queue x a → IsAtMost a c

-- x is idle, or it is v
abbrev pub OrNode : (ℕ → Cost → Type 0) → ℕ → ℕ → Cost → Type 0
OrNode Idle v x e = Idle x e ⊎ (x ≡ v)

-- a leg back from a node that s reaches to v gives a way to v that costs less than c
pub record IsStalled (rows back : List (List Leg)) (s v : ℕ) (c : Cost) : Type 0 where
  pub leg : Leg
  pub has : Contains (row back v) leg
  pub cost : Cost
  pub reached : IsUpwardCost rows s leg.node cost
  pub below : IsBelow (cost_sum cost leg.cost) c

-- no idle node is on an upward path to m that costs at most c
abbrev pub AvoidsIdle : List (List Leg) → (ℕ → Cost → Type 0) → ℕ → Cost → Type 0
AvoidsIdle rows Idle m c =
    (x : ℕ) (e : Cost) (legs : List Leg) → Idle x e → IsUpwardPath rows x m legs → IsAtMost (cost_sum e (path_cost legs)) c → ⊥

abbrev pub is_none : Option Cost → Bool
is_none None = true
is_none (Some c) = false

-- no node has a key
abbrev pub IsEmpty : List (Option Cost) → Type 0
IsEmpty queue = (v : ℕ) (c : Cost) → cost_at queue v ≡ Some c → ⊥

-- the number of nodes that are not reached or are in the queue
abbrev pub count_unsettled : List (Option Cost) → List (Option Cost) → ℕ
count_unsettled best queue = count_by is_none best + count_by is_some queue

-- the cost of w is unknown or more than d
pub record WouldLower (best : List (Option Cost)) (w : ℕ) (d : Cost) : Type 0 where
  pub within : w < length best
  pub lower : (e : Cost) → cost_at best w ≡ Some e → IsBelow d e

-- the change when a leg of v, settled at cost c, is taken. Either no cost falls, and the lesser parent stays. Or the
-- leg's node gets the sum as cost and key, and v as parent
abbrev pub Relaxes : ℕ → List (Option Cost) → List (Option Cost) → List ℕ → ℕ → Cost → Leg → List (Option Cost) → List (Option Cost) →
    List ℕ → Type 0
Relaxes most best queue parents v c l best' queue' parents' =
    ((best' ≡ best) × (queue' ≡ queue) × IsRelaxedFrom most best c l
    × (((c.weight + l.cost.weight ≤ most → cost_at best l.node ≡ Some (cost_sum c l.cost) → slice_index parents l.node ≤ v)
    × (parents' ≡ parents))
    ⊎ ((cost_at best l.node ≡ Some (cost_sum c l.cost)) × (v < slice_index parents l.node) × (parents' ≡ slice_set parents l.node v))))
    ⊎ ((c.weight + l.cost.weight ≤ most) × WouldLower best l.node (cost_sum c l.cost)
    × (best' ≡ slice_set best l.node (Some (cost_sum c l.cost)))
    × (queue' ≡ slice_set queue l.node (Some (cost_sum c l.cost))) × (parents' ≡ slice_set parents l.node v))
