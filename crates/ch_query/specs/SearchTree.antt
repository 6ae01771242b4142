-- The tree of a search that stalls: where it did not stall, nodes with costs and with the nodes before them.
use Rattle.std.specs.Prelude.{◌≡◌, ℕ, ◌<◌, ⊤, ◌⊎◌, List, [], ◌∷◌, slice_index, All, Contains, Some}
use Rattle.ch_graph.specs.declared.cost.Cost.{Cost}
use Rattle.ch_graph.specs.Cost.{cost_at}
use Rattle.ch_hierarchy.specs.Hierarchy.{LevelsAndLegs, nodes_of}
use Rattle.ch_hierarchy.specs.Ranked.{rank_of}
use Rattle.ch_hierarchy.specs.declared.side.Side.{Side}
use Rattle.ch_hierarchy.specs.Side.{rows_of}
use Rattle.ch_query.specs.declared.question.Question.{Question}
use Rattle.ch_query.specs.declared.sides.search.Search.{Search}
use Rattle.ch_query.specs.declared.sides.growing.TreeNode.{TreeNode}
use Rattle.ch_query.specs.ByNode.{costs_of, keys_of, parents_of}
use Rattle.ch_query.specs.Routes.{DescentStep, IsDescent}
use Rattle.ch_query.specs.Search.{IsSettled, IsUpwardCost}
use Rattle.ch_query.specs.SearchSpace.{IsTight}
use Rattle.ch_query.specs.Underway.{idle_of}

-- each step goes from a node to its parent
abbrev pub FollowsParents : List ℕ → ℕ → List DescentStep → Type 0
FollowsParents parents v [] = ⊤
FollowsParents parents v (step ∷ steps) = (slice_index parents v ≡ step.low) × FollowsParents parents step.low steps

-- nodes that s reaches, with the costs of paths and with their parents. Each tight node is one of them, with its least
-- cost, and the way that a route goes back from it follows the parents
pub record IsSearchTree (H : LevelsAndLegs) (side : Side) (s : ℕ) (tree : List TreeNode) : Type 0 where
  pub parents : List ℕ
  pub sound : (e : TreeNode) → Contains tree e →
      (e.node < nodes_of H) × IsUpwardCost (rows_of H side) s e.node e.cost × (e.parent ≡ slice_index parents e.node)
  pub whole : (v : ℕ) (c : Cost) → IsTight H side s v c → (p : ℕ) × Contains tree (record { node = v; cost = c; parent = p })
  pub traced : (v : ℕ) (c : Cost) → IsTight H side s v c →
      (steps : List DescentStep) × IsDescent (rows_of H side) s v steps × FollowsParents parents v steps

-- ranks of nodes, among them those of all settled nodes that are not idle
pub record AreUnstalled (H : LevelsAndLegs) (q : Question) (x : Search) (ranks : List ℕ) : Type 0 where
  pub within : All (λ rank. rank < nodes_of H) ranks
  pub whole : (v : ℕ) (c : Cost) → IsSettled (costs_of H x) (keys_of H x) v c → idle_of H q v c ⊎ Contains ranks (rank_of H v)

-- a node with the cost and the parent that a search knows of it
abbrev pub IsKnownNode : LevelsAndLegs → Search → TreeNode → Type 0
IsKnownNode H x e = (e.node < nodes_of H) × (cost_at (costs_of H x) e.node ≡ Some e.cost) × (e.parent ≡ slice_index (parents_of H x) e.node)

-- the nodes of these ranks that have a cost
pub record AreKnownNodes (H : LevelsAndLegs) (x : Search) (ranks : List ℕ) (tree : List TreeNode) : Type 0 where
  pub sound : (e : TreeNode) → Contains tree e → IsKnownNode H x e
  pub whole : (v : ℕ) (c : Cost) → v < nodes_of H → Contains ranks (rank_of H v) → cost_at (costs_of H x) v ≡ Some c →
      (p : ℕ) × Contains tree (record { node = v; cost = c; parent = p })
