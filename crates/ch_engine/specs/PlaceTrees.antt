-- The search trees of kept places and of many pairs, that of a source by node, and where two trees meet.
use Rattle.std.specs.Prelude.{◌≡◌, ◌≢◌, ℕ, ◌+◌, ◌<◌, ◌⊎◌, ⊤, List, [], length, slice_index, slice_index_or, Contains}
use Rattle.std.specs.Prelude.{MatchOption, Option, None, Some}
use Rattle.ch_graph.specs.Cost.{IsSumTooLarge, cost_sum}
use Rattle.ch_hierarchy.specs.Hierarchy.{LevelsAndLegs}
use Rattle.ch_hierarchy.specs.declared.side.Side.{Side}
use Rattle.ch_hierarchy.specs.declared.side.Side.TheVariants.{Up, Down}
use Rattle.ch_hierarchy.specs.Direction.{source_side, target_side}
use Rattle.ch_engine.specs.declared.pair_trees.NodeTrees.{NodeTrees}
use Rattle.ch_engine.specs.declared.pair_trees.PairTrees.{PairTrees}
use Rattle.ch_engine.specs.declared.place_trees.PlaceTrees.{PlaceTrees}
use Rattle.ch_engine.specs.declared.source_tree.SourceTree.{SourceTree}
use Rattle.ch_engine.specs.declared.sum_meets.Meeting.{Meeting}
use Rattle.ch_engine.specs.declared.sum_trees.Branch.{Branch}
use Rattle.ch_engine.specs.Held.{Held}
use Rattle.ch_engine.specs.LegSums.{unknown}
use Rattle.ch_engine.specs.Lines.{Lines}
use Rattle.ch_engine.specs.TableSums.{AreBranches, Covers}

-- the tree of each place that has one is that of its node on a side
abbrev pub AreTreesOf : Side → LevelsAndLegs → Lines → List ℕ → List ℕ → PlaceTrees → Type 0
AreTreesOf side H lines values places trees = (p i : ℕ) → slice_index_or trees.numbers.items p None ≡ Some i →
    (i < length trees.trees) × AreBranches side H lines values (slice_index places p) (slice_index_or trees.trees i [])

-- the trees of nodes on a side
abbrev pub AreNodeTrees : Side → LevelsAndLegs → Lines → List ℕ → NodeTrees → Type 0
AreNodeTrees side H lines values trees = AreTreesOf side H lines values trees.nodes.items trees.trees

-- they are those of the kept places for the kept values, if both are kept
abbrev pub AreKeptTrees : Held → PlaceTrees → Type 0
AreKeptTrees held trees = MatchOption held.near ⊤ (λ asked. MatchOption held.values ⊤ (λ values.
    AreTreesOf (target_side asked.direction) held.hierarchy held.lines values asked.targets trees))

-- branch i is at the node in slot i
abbrev pub AreInSlots : List ℕ → List Branch → Type 0
AreInSlots names branches =
    (i : ℕ) (d : Branch) → i < length branches → (i < length names) × (slice_index names i ≡ (slice_index_or branches i d).node)

-- these branches are in the slots of their nodes, or there are none
pub record IsNoted (branches : List Branch) (tree : SourceTree) : Type 0 where
  pub slots : AreInSlots tree.slots.names tree.branches.items
  pub same : (tree.branches.items ≡ branches) ⊎ (tree.branches.items ≡ [])

-- the tree has the branches of s on a side in the slots of their nodes, or it has none
pub record IsTreeBySlot (side : Side) (H : LevelsAndLegs) (lines : Lines) (values : List ℕ) (s : ℕ) (tree : SourceTree) : Type 0 where
  pub slots : AreInSlots tree.slots.names tree.branches.items
  pub branches : (tree.branches.items ≡ []) ⊎ AreBranches side H lines values s tree.branches.items

-- the trees of sources and targets, and that of one of the sources by node
pub record ArePairTrees (H : LevelsAndLegs) (lines : Lines) (values : List ℕ) (trees : PairTrees) : Type 0 where
  pub up : AreNodeTrees Up H lines values trees.ups
  pub down : AreNodeTrees Down H lines values trees.downs
  pub noted : (s : ℕ) → trees.source ≡ Some s → IsTreeBySlot Up H lines values s trees.tree

-- the tree has the branches of s in the slots of their nodes, for the kept values and on the side that distances with the kept
-- places ask for; or it has none
pub record IsSourceTree (held : Held) (s : ℕ) (tree : SourceTree) : Type 0 where
  pub slots : AreInSlots tree.slots.names tree.branches.items
  pub branches : MatchOption held.near ⊤ (λ asked. MatchOption held.values ⊤ (λ values. (tree.branches.items ≡ [])
      ⊎ AreBranches (source_side asked.direction) held.hierarchy held.lines values s tree.branches.items))

-- branches of two lists at one node, with the sum of their costs and that of their sums, if it is known
pub record IsMeetingOf (own far : List Branch) (met : Meeting) : Type 0 where
  pub a : Branch
  pub b : Branch
  pub first : Contains own a
  pub second : Contains far b
  pub node : met.node ≡ a.node
  pub same : a.node ≡ b.node
  pub cost : met.cost ≡ cost_sum a.cost b.cost
  pub sum : met.sum ≢ unknown → (a.sum ≢ unknown) × (b.sum ≢ unknown) × (met.sum ≡ a.sum + b.sum)

-- of all meetings whose costs fit into words it comes first, by cost and then by node
pub record IsFirstMeeting (own far : List Branch) (met : Option Meeting) : Type 0 where
  pub is : (x : Meeting) → met ≡ Some x → IsMeetingOf own far x
  pub covers : (a b : Branch) → Contains own a → Contains far b → a.node ≡ b.node → (IsSumTooLarge a.cost b.cost → ⊥) →
      Covers met a.node (cost_sum a.cost b.cost)
