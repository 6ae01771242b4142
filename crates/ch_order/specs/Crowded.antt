-- Orders that would join too many nodes by legs.
use Rattle.std.specs.Prelude.{◌≡◌, ℕ, ◌-◌, ◌/◌, ◌<◌, List, length, take, slice_index}
use Rattle.ch_graph.specs.Graph.{Network}
use Rattle.ch_contract.specs.Begun.{IsBegun}
use Rattle.ch_contract.specs.Contraction.{count_touching}
use Rattle.ch_contract.specs.Legs.{Legs}
use Rattle.ch_order.specs.declared.construction.crowded.TheConstants.{MOST_NAMED_LEGS}

-- when k of n nodes are contracted, and L are the legs, more legs touch v than this constant says, and more than the last hundredth of
-- the nodes are left
abbrev pub IsCrowded : ℕ → ℕ → Legs → ℕ → Type 0
IsCrowded n k L v = (MOST_NAMED_LEGS < count_touching n L v) × (k < n - n / 100)

-- v is one of the given nodes, and it is crowded when all before it are contracted, as given
abbrev pub HasCrowded : Network → ℕ → List ℕ → ℕ → Type 0
HasCrowded g h given v = (k : ℕ) × (L : ℕ → Legs) × (k < length given) × (slice_index given k ≡ v) × IsBegun g h (take k given) L
    × IsCrowded g.nodes k (L k) v
