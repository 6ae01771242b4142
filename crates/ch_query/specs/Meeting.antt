-- Two searches of the program that look for a node where they meet.
use Rattle.std.specs.Prelude.{◌≡◌, ℕ, ◌⊎◌, Option, Some, None}
use Rattle.ch_graph.specs.declared.cost.Cost.{Cost}
use Rattle.ch_graph.specs.Cost.{cost_sum}
use Rattle.ch_hierarchy.specs.Hierarchy.{LevelsAndLegs}
use Rattle.ch_hierarchy.specs.Side.{rows_of}
use Rattle.ch_query.specs.declared.question.Question.{Question}
use Rattle.ch_query.specs.declared.sides.search.Search.{Search}
use Rattle.ch_query.specs.Search.{IsSettled, IsUpwardCost}
use Rattle.ch_query.specs.TwoSided.{MeetsFirst, IsSeen}
use Rattle.ch_query.specs.Underway.{IsUnderway}
use Rattle.ch_query.specs.ByNode.{costs_of, keys_of}

-- the first of the two, by cost and then by node
pub record IsFirst (least : Option (Cost × ℕ)) (new : Cost × ℕ) (result : Option (Cost × ℕ)) : Type 0 where
  pub chosen : (result ≡ Some new) ⊎ (result ≡ least)
  pub covers_new : (e : Cost × ℕ) × (result ≡ Some e) × MeetsFirst e new
  pub covers_old : (d : Cost × ℕ) → least ≡ Some d → (e : Cost × ℕ) × (result ≡ Some e) × MeetsFirst e d

-- the least sum after v was reached at c on this side, and perhaps on the other side before
abbrev pub IsLeastAfter : Option Cost → ℕ → Cost → Option (Cost × ℕ) → Option (Cost × ℕ) → Type 0
IsLeastAfter None v c least result = result ≡ least
IsLeastAfter (Some d) v c least result = IsFirst least (cost_sum c d, v) result

-- the least sum is the sum of the costs of two paths
abbrev pub IsFoundBy : LevelsAndLegs → Question → Question → Option (Cost × ℕ) → Type 0
IsFoundBy H q r least =
    (e : Cost × ℕ) → least ≡ Some e → (a b : Cost) × IsUpwardCost (rows_of H q.side) q.source e.1 a
    × IsUpwardCost (rows_of H r.side) r.source e.1 b × (cost_sum a b ≡ e.0)

-- searches for two questions; the least sum covers all nodes that both have settled
pub record AreMeeting (H : LevelsAndLegs) (q r : Question) (x y : Search) (least : Option (Cost × ℕ)) : Type 0 where
  pub here : IsUnderway H q x
  pub there : IsUnderway H r y
  pub seen : IsSeen (costs_of H x) (keys_of H x) (costs_of H y) (keys_of H y) least
  pub found : IsFoundBy H q r least

-- no node is settled yet
abbrev pub IsFresh : LevelsAndLegs → Search → Type 0
IsFresh H x = (v : ℕ) (c : Cost) → IsSettled (costs_of H x) (keys_of H x) v c → ⊥
