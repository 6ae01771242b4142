-- The triangles of a topology, and the least topology of a graph in an order.
use Rattle.std.specs.Prelude.{◌≡◌, ℕ, ◌-◌, ◌*◌, ◌/◌, ◌<◌, List, [], length, take, slice_index_or}
use Rattle.std.specs.List.{sum_by}
use Rattle.ch_graph.specs.Graph.{Network}
use Rattle.ch_custom.specs.Customizing.{IsPair, IsTopology}

-- the number of sets of two elements of a row
abbrev pub pairs_among : ℕ → ℕ
pairs_among size = size * (size - 1) / 2

-- the number of triangles whose lowest node is one of these: each two pairs of a node make one
abbrev pub triangles_over : List (List ℕ) → List ℕ → ℕ
triangles_over rows nodes = sum_by (λ v. pairs_among (length (slice_index_or rows v []))) nodes

-- both rows have as many triangles over the first nodes of the order
abbrev pub IsCountKept : List ℕ → ℕ → List (List ℕ) → List (List ℕ) → Type 0
IsCountKept order count old new = triangles_over new (take count order) ≡ triangles_over old (take count order)

-- each pair of these rows is one of each topology for the graph in this order
abbrev pub AreNeeded : Network → List ℕ → List (List ℕ) → Type 0
AreNeeded g order rows = (other : List (List ℕ)) → IsTopology g order other → (i j : ℕ) → i < g.nodes → j < g.nodes →
    IsPair order rows i j → IsPair order other i j

-- each topology for the graph in this order has more triangles
abbrev pub AllHaveMore : Network → List ℕ → ℕ → Type 0
AllHaveMore g order most = (rows : List (List ℕ)) → IsTopology g order rows → most < triangles_over rows order
