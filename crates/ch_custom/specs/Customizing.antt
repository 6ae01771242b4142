-- Customization: contraction where only a leg alone is a witness. Then each leg is the least of the one before and of the
-- sum over the node that is taken, whatever else is there.
use Rattle.std.specs.Prelude.{◌≡◌, ◌↔◌, ◌⊎◌, ℕ, ◌<◌, ◌≤◌, ◌==◌, ◌&&◌, ◌||◌, nat_le, nat_lt, Bool, true, if◌then◌else◌, List, [], map}
use Rattle.std.specs.Prelude.{slice_index, slice_index_or, Contains, Option, Some, None, IsSome}
use Rattle.std.specs.Ordering.{is_lt}
use Rattle.ch_graph.specs.declared.limits.TheConstants.{MOST_WEIGHT}
use Rattle.ch_graph.specs.declared.cost.Cost.{Cost}
use Rattle.ch_graph.specs.declared.arc.InArc.{InArc}
use Rattle.ch_graph.specs.Cost.{cost_cmp, cost_sum}
use Rattle.ch_graph.specs.Graph.{Network, IsWithinLimits}
use Rattle.ch_hierarchy.specs.Hierarchy.{LevelsAndLegs}
use Rattle.ch_contract.specs.Legs.{Label, Legs, SameLegs, AreLegsWithin}
use Rattle.ch_contract.specs.Contraction.{Contracts}
use Rattle.ch_contract.specs.Order.{AreTaken}
use Rattle.ch_contract.specs.Built.{IsHierarchyIn, IsHierarchyOf}

-- the cost is less than that of the leg; each cost is less than that of no leg
abbrev pub is_cheaper : Cost → Option Label → Bool
is_cheaper c None = true
is_cheaper c (Some l) = is_lt (cost_cmp c l.cost)

-- the leg of this cost over v if it is within the limits of n nodes and cheaper than the leg before, and else the leg before
abbrev pub cheaper_leg : ℕ → ℕ → Cost → Option Label → Option Label
cheaper_leg n v c before =
    if nat_le c.weight MOST_WEIGHT && nat_lt c.arcs n && is_cheaper c before then Some (record { cost = c; middle = Some v }) else before

-- the leg before, lowered to the sum of a leg to v and a leg from v if both are there
abbrev pub leg_over : ℕ → ℕ → Option Label → Option Label → Option Label → Option Label
leg_over n v None second before = before
leg_over n v (Some a) None before = before
leg_over n v (Some a) (Some b) before = cheaper_leg n v (cost_sum a.cost b.cost) before

-- the legs after each is lowered over v, and v is taken out
abbrev pub legs_lowered : ℕ → Legs → ℕ → Legs
legs_lowered n L v u w = if u == v || (w == v || u == w) then None else leg_over n v (L u v) (L v w) (L u w)

-- M are the legs after each is lowered over v, and v is taken out
abbrev pub Lowers : ℕ → Legs → ℕ → Legs → Type 0
Lowers n L v M = SameLegs M (legs_lowered n L v)

-- a contraction where a witness has one leg lowers the legs, and lowered legs are those of such a contraction
abbrev pub ContractingIsLowering : Type 0
ContractingIsLowering = (n : ℕ) (L : Legs) (v : ℕ) (M : Legs) → AreLegsWithin n L → Contracts n 1 L v M ↔ Lowers n L v M

-- the hierarchy of lowered legs is the contraction hierarchy in this order where a witness has one leg
abbrev pub LoweredAreContracted : Type 0
LoweredAreContracted = (g : Network) (order : List ℕ) (H : LevelsAndLegs) (L : ℕ → Legs) → IsWithinLimits g →
    IsHierarchyIn (Lowers g.nodes) g H order L → IsHierarchyOf g 1 H order L

-- the places i and j of an order are a pair: the row of the node at i has the node at j
abbrev pub IsPair : List ℕ → List (List ℕ) → ℕ → ℕ → Type 0
IsPair order rows i j = Contains (slice_index_or rows (slice_index order i) []) (slice_index order j)

-- the higher places of each two pairs of one place are a pair
abbrev pub AreClosed : ℕ → List ℕ → List (List ℕ) → Type 0
AreClosed n order rows = (k i j : ℕ) → k < i → i < j → j < n → IsPair order rows k i → IsPair order rows k j → IsPair order rows i j

-- the ends of each arc are a pair
abbrev pub HaveArcs : Network → List ℕ → List (List ℕ) → Type 0
HaveArcs g order rows = (a : InArc) (i j : ℕ) → Contains g.arcs a → i < j → j < g.nodes →
    ((slice_index order i ≡ a.from) × (slice_index order j ≡ a.to)) ⊎ ((slice_index order i ≡ a.to) × (slice_index order j ≡ a.from)) →
    IsPair order rows i j

-- a topology for a graph in an order: the ends of each arc are a pair, and so are the higher places of each two pairs of one
-- place. It depends on no weight
pub record IsTopology (g : Network) (order : List ℕ) (rows : List (List ℕ)) : Type 0 where
  pub arcs : HaveArcs g order rows
  pub closed : AreClosed g.nodes order rows

-- each leg is between the places of a pair
abbrev pub StaysIn : List (List ℕ) → Network → List ℕ → Legs → Type 0
StaysIn rows g order M = (i j : ℕ) → i < j → j < g.nodes →
    (IsSome (M (slice_index order i) (slice_index order j)) → IsPair order rows i j)
    × (IsSome (M (slice_index order j) (slice_index order i)) → IsPair order rows i j)

-- lowering makes no leg outside a topology
abbrev pub LegsStayInTopologies : Type 0
LegsStayInTopologies = (g : Network) (order : List ℕ) (L : ℕ → Legs) (rows : List (List ℕ)) → IsWithinLimits g →
    AreTaken (Lowers g.nodes) g order L → IsTopology g order rows → (k : ℕ) → k ≤ g.nodes → StaysIn rows g order (L k)

-- arcs at the same places of the two graphs lead between the same nodes
abbrev pub HaveSameEnds : Network → Network → Type 0
HaveSameEnds g f = (g.nodes ≡ f.nodes) × (map {B = ℕ × ℕ} (λ a. (a.from, a.to)) g.arcs ≡ map {B = ℕ × ℕ} (λ a. (a.from, a.to)) f.arcs)

-- a topology serves each graph with the same roads
abbrev pub TopologiesServeAllWeights : Type 0
TopologiesServeAllWeights = (g f : Network) (order : List ℕ) (rows : List (List ℕ)) → HaveSameEnds g f → IsTopology g order rows →
    IsTopology f order rows

-- the row of k is empty, or it has a least place, and all others of it are in the row of that place
abbrev pub HasParent : ℕ → List ℕ → List (List ℕ) → ℕ → Type 0
HasParent n order rows k = ((i : ℕ) → i < n → IsPair order rows k i → ⊥)
    ⊎ ((p : ℕ) × (k < p) × ((i : ℕ) → i < n → IsPair order rows k i → (i ≡ p) ⊎ ((p < i) × IsPair order rows p i)))

-- rows are closed if each hands its places on to its least one. So one pass over the rows closes them
abbrev pub ParentsClose : Type 0
ParentsClose = (n : ℕ) (order : List ℕ) (rows : List (List ℕ)) → ((k : ℕ) → k < n → HasParent n order rows k) → AreClosed n order rows
