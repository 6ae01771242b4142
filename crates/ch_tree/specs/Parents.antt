-- The tree of a topology. The node at place i of an order of n nodes has the place n - i in the tree.
use Rattle.std.specs.Prelude.{◌≡◌, ℕ, ◌+◌, ◌-◌, ◌<◌, ◌≤◌, ◌⊎◌, List, length, slice_index}
use Rattle.ch_graph.specs.Graph.{Network, IsWithinLimits}
use Rattle.ch_hierarchy.specs.Hierarchy.{LevelsAndLegs, IsLevelled}
use Rattle.ch_contract.specs.Legs.{Legs}
use Rattle.ch_contract.specs.Built.{IsHierarchyIn}
use Rattle.ch_custom.specs.Customizing.{Lowers, IsPair, IsTopology}
use Rattle.ch_custom.specs.Pruning.{IsCustomizedAndPruned}
use Rattle.ch_custom.specs.Topologies.{OrderAndPairs}
use Rattle.ch_custom.specs.Ancestors.{IsParent}
use Rattle.ch_tree.specs.Tree.{IsTree}

-- the greatest place of the first nodes of a row, or 0
pub record IsHighest (levels row : List ℕ) (count place : ℕ) : Type 0 where
  pub most : (k : ℕ) → k < count → k < length row → length levels + 1 - slice_index levels (slice_index row k) ≤ place
  pub one : (place ≡ 0) ⊎ ((k : ℕ) × (k < length row) × (length levels + 1 - slice_index levels (slice_index row k) ≡ place))

-- q is 0 if the row is empty, and else the place of the parent
abbrev pub IsParentPlace : ℕ → List ℕ → List (List ℕ) → ℕ → ℕ → Type 0
IsParentPlace n order rows i q =
    (((j : ℕ) → j < n → IsPair order rows i j → ⊥) × (q ≡ 0)) ⊎ ((p : ℕ) × IsParent n order rows i p × (q ≡ n - p))

-- the list has the place above each of the first places
pub record AreParentsTo (n : ℕ) (order : List ℕ) (rows : List (List ℕ)) (count : ℕ) (parents : List ℕ) : Type 0 where
  pub size : length parents ≡ count + 1
  pub root : slice_index parents 0 ≡ 0
  pub each : (i : ℕ) → i < n → n - i ≤ count → IsParentPlace n order rows i (slice_index parents (n - i))

-- the list has the place above each place
abbrev pub AreParentsOf : ℕ → List ℕ → List (List ℕ) → List ℕ → Type 0
AreParentsOf n order rows parents = AreParentsTo n order rows n parents

-- the same of a topology
abbrev pub AreParentsIn : OrderAndPairs → List ℕ → Type 0
AreParentsIn f parents = AreParentsOf (length f.pairs) f.order f.pairs parents

-- the tree of a topology is a tree for each hierarchy that is customized in it
abbrev pub TreesFit : Type 0
TreesFit = (g : Network) (H : LevelsAndLegs) (order : List ℕ) (L : ℕ → Legs) (rows : List (List ℕ)) (parents : List ℕ) →
    IsWithinLimits g → IsLevelled H →
    IsHierarchyIn (Lowers g.nodes) g H order L → IsTopology g order rows → AreParentsOf g.nodes order rows parents → IsTree H parents

-- it is also a tree for what pruning leaves of such a hierarchy
abbrev pub TreesFitPruned : Type 0
TreesFitPruned = (g : Network) (P : LevelsAndLegs) (order : List ℕ) (rows : List (List ℕ)) (parents : List ℕ) → IsWithinLimits g →
    IsCustomizedAndPruned g order P → IsTopology g order rows → AreParentsOf g.nodes order rows parents → IsTree P parents

-- these are a tree for each hierarchy that is customized in the topology
abbrev pub IsTreeOf : OrderAndPairs → List ℕ → Type 0
IsTreeOf f parents = (g : Network) (H : LevelsAndLegs) (L : ℕ → Legs) → IsWithinLimits g → IsLevelled H →
    IsHierarchyIn (Lowers g.nodes) g H f.order L →
    IsTopology g f.order f.pairs → length f.pairs ≡ g.nodes → IsTree H parents

-- they are also a tree for what pruning leaves of such a hierarchy
abbrev pub IsTreeOfPruned : OrderAndPairs → List ℕ → Type 0
IsTreeOfPruned f parents = (g : Network) (P : LevelsAndLegs) → IsWithinLimits g → IsCustomizedAndPruned g f.order P →
    IsTopology g f.order f.pairs → length f.pairs ≡ g.nodes → IsTree P parents
