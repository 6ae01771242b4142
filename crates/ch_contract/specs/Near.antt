-- Neighbours of a node between which it has shortcuts, whatever the other legs are.
use Rattle.std.specs.Prelude.{◌≡◌, ◌≢◌, ℕ, ◌*◌, ◌<◌, ◌≤◌, List, length, AllPairs, Contains, Some}
use Rattle.ch_graph.specs.declared.limits.TheConstants.{MOST_WEIGHT}
use Rattle.ch_contract.specs.declared.leg_lists.End.{End}
use Rattle.ch_contract.specs.Legs.{Label, Legs, turned_legs}

-- x has a leg to v, and each other leg from x weighs more than twice as much; two legs that cost as much keep the limits of a
-- graph of n nodes
pub record IsNear (n : ℕ) (L : Legs) (v x : ℕ) : Type 0 where
  pub leg : Label
  pub leads : L x v ≡ Some leg
  pub weight : 2 * leg.cost.weight ≤ MOST_WEIGHT
  pub arcs : 2 * leg.cost.arcs < n
  pub away : (y : ℕ) (other : Label) → L x y ≡ Some other → y ≢ v → 2 * leg.cost.weight < other.cost.weight

-- at least so many nodes are near v
abbrev pub AreNear : ℕ → Legs → ℕ → ℕ → Type 0
AreNear n L v count = (nodes : List ℕ) × AllPairs ◌<◌ nodes × (count ≤ length nodes) × ((x : ℕ) → Contains nodes x → IsNear n L v x)

-- the legs as they are seen from their nodes at this end
abbrev pub seen_from : End → Legs → Legs
seen_from End.First L = L
seen_from End.Second L = turned_legs L
