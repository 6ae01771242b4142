-- The least sum that two searches know, as data.
use Rattle.std.specs.Prelude.{◌≡◌, ℕ, ◌≤◌, List, Option, Some}
use Rattle.ch_graph.specs.declared.cost.Cost.{Cost}
use Rattle.ch_graph.specs.Cost.{IsAtMost, IsBelow, cost_sum, cost_at}
use Rattle.ch_query.specs.Search.{IsSettled}

-- a comes first: its cost is at most that of b, and at equal costs its node is at most that of b
abbrev pub MeetsFirst : Cost × ℕ → Cost × ℕ → Type 0
MeetsFirst a b = IsAtMost a.0 b.0 × (a.0 ≡ b.0 → a.1 ≤ b.1)

-- the least sum is at most that of each node that both sides have settled
abbrev pub IsSeen : (best_up queue_up best_down queue_down : List (Option Cost)) → Option (Cost × ℕ) → Type 0
IsSeen best_up queue_up best_down queue_down least =
    (v : ℕ) (a b : Cost) → IsSettled best_up queue_up v a → IsSettled best_down queue_down v b →
    (e : Cost × ℕ) × (least ≡ Some e) × MeetsFirst e (cost_sum a b, v)

-- for each key of the second queue, the first queue has a key that is at most that
abbrev pub LeadsKeys : List (Option Cost) → List (Option Cost) → Type 0
LeadsKeys first second = (v : ℕ) (d : Cost) → cost_at second v ≡ Some d → (u : ℕ) × (c : Cost) × (cost_at first u ≡ Some c) × IsAtMost c d

-- each remaining key is more than the least sum
abbrev pub IsPast : List (Option Cost) → Option (Cost × ℕ) → Type 0
IsPast queue least = (v : ℕ) (d : Cost) → cost_at queue v ≡ Some d → (e : Cost × ℕ) × (least ≡ Some e) × IsBelow e.0 d
