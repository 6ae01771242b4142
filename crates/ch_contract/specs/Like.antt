-- An order of contraction like a given one: the first nodes come as given, and the others are ordered afresh.
use Rattle.std.specs.Prelude.{◌≡◌, ℕ, ◌-◌, ◌*◌, ◌/◌, ◌<◌, ◌≤◌, max, List, length, slice_index, take, Contains, ℤ}
use Rattle.ch_graph.specs.Graph.{Network}
use Rattle.ch_hierarchy.specs.Hierarchy.{LevelsAndLegs}
use Rattle.ch_contract.specs.declared.measure.OrderBy.{OrderBy}
use Rattle.ch_contract.specs.declared.measure.OrderBy.TheVariants.{Depth}
use Rattle.ch_contract.specs.Legs.{Legs}
use Rattle.ch_contract.specs.Contraction.{IsPriorityBy}
use Rattle.ch_contract.specs.Order.{depth_after, IsLastTouch, IsContractedBefore}
use Rattle.ch_contract.specs.Built.{IsHierarchyOf}

-- the priority of x after the first i steps, of which the first k are given: all remaining nodes are judged after step k,
-- and then a node is judged again only when a neighbour is contracted
abbrev pub IsPriorityFrom : ℕ → OrderBy → ℕ → ℕ → List ℕ → (ℕ → Legs) → ℕ → ℕ → ℤ → Type 0
IsPriorityFrom k by n h order L i x p =
    (j : ℕ) × IsLastTouch order L i x j × IsPriorityBy by n h (L (max k j)) (depth_after order L (max k j)) x p

-- at each step after the first k the node comes before all remaining nodes
abbrev pub TakesFirstFrom : ℕ → OrderBy → Network → ℕ → List ℕ → (ℕ → Legs) → Type 0
TakesFirstFrom k by g h order L = (i x : ℕ) → k ≤ i → i < g.nodes → x < g.nodes → (Contains (take i order) x → ⊥) →
    (p q : ℤ) × IsPriorityFrom k by g.nodes h order L i (slice_index order i) p × IsPriorityFrom k by g.nodes h order L i x q
    × IsContractedBefore p (slice_index order i) q x

-- the contraction hierarchy of a graph whose given nodes are contracted first, as given, and then each time the first of
-- the others in this order
abbrev pub IsHierarchyFrom : OrderBy → Network → ℕ → List ℕ → LevelsAndLegs → Type 0
IsHierarchyFrom by g h given H = (order : List ℕ) × (L : ℕ → Legs) × IsHierarchyOf g h H order L
    × (take (length given) order ≡ given) × TakesFirstFrom (length given) by g h order L

-- how many of n nodes come in the given order, if this per cent of them, rounded down, are ordered afresh
abbrev pub given_count : ℕ → ℕ → ℕ
given_count n fresh = n - n * fresh / 100

-- the contraction hierarchy of a graph in an order like a given one: its first nodes come as given, and the last per cent
-- of them are ordered afresh by depth
abbrev pub IsHierarchyLike : Network → ℕ → List ℕ → ℕ → LevelsAndLegs → Type 0
IsHierarchyLike g h given fresh H = IsHierarchyFrom Depth g h (take (given_count g.nodes fresh) given) H

-- the contraction hierarchy of a graph whose nodes are contracted in this order
abbrev pub IsHierarchyInOrder : Network → ℕ → List ℕ → LevelsAndLegs → Type 0
IsHierarchyInOrder g h order H = (L : ℕ → Legs) × IsHierarchyOf g h H order L
