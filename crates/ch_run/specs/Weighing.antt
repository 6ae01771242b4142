-- Graphs with new weights: the arcs of a graph, where each new weight holds for all arcs between its nodes.
use Rattle.std.specs.Prelude.{◌≡◌, ℕ, ◌+◌, ◌*◌, ◌^◌, ◌==◌, ◌&&◌, ◌↔◌, Bool, true, if◌then◌else◌, List, [], ◌∷◌, map, take, slice_get}
use Rattle.std.specs.Prelude.{All, Contains, Option, Some, None, IsSome, IsTrue}
use Rattle.std.specs.Ordering.{nat_cmp}
use Rattle.std.specs.BTreeMap.{BTreeMap, get}
use Rattle.std.specs.BTreeSet.{BTreeSet, contains}
use Rattle.ch_graph.specs.declared.arc.InArc.{InArc}
use Rattle.ch_graph.specs.Graph.{Network}
use Rattle.ch_read.specs.declared.new_weights.NewWeight.{NewWeight}

-- the arc leads between the nodes of this new weight
abbrev pub is_for : NewWeight → InArc → Bool
is_for new a = a.from == new.from && a.to == new.to

-- the arc after this new weight
abbrev pub weighed_once : NewWeight → InArc → InArc
weighed_once new a = if is_for new a then record { from = a.from; to = a.to; weight = new.weight } else a

-- the arc after these new weights, one after the other. So the later of two for the same nodes holds
abbrev pub weighed : List NewWeight → InArc → InArc
weighed [] a = a
weighed (new ∷ more) a = weighed more (weighed_once new a)

-- the graph after these new weights
abbrev pub reweighed : Network → List NewWeight → Network
reweighed g listed = record { nodes = g.nodes; arcs = map (weighed listed) g.arcs }

-- an arc of the graph leads between the nodes of this new weight
abbrev pub HasArc : Network → NewWeight → Type 0
HasArc g new = (a : InArc) × Contains g.arcs a × (is_for new a ≡ true)

-- the new weight on this line is the first one without an arc
pub record IsFirstWithoutArc (g : Network) (listed : List NewWeight) (line : ℕ) : Type 0 where
  pub place : ℕ
  pub new : NewWeight
  pub stands : slice_get listed place ≡ Some new
  pub before : All (HasArc g) (take place listed)
  pub none : HasArc g new → ⊥
  pub line_is : line ≡ new.line

-- one number for two nodes
abbrev pub key_of : ℕ → ℕ → ℕ
key_of from to = from * 2 ^ 32 + to

-- the last new weight for the nodes of this key, or `before` if there is none
abbrev pub latest : ℕ → Option ℕ → List NewWeight → Option ℕ
latest key before [] = before
latest key before (new ∷ more) = latest key (if key_of new.from new.to == key then Some new.weight else before) more

-- the map has the last new weight for each key
abbrev pub AreLatest : List NewWeight → BTreeMap ℕ ℕ → Type 0
AreLatest listed found = (key : ℕ) → get nat_cmp found key ≡ latest key None listed

-- the arc with this weight, or as it is without one
abbrev pub with_weight : Option ℕ → InArc → InArc
with_weight None a = a
with_weight (Some weight) a = record { from = a.from; to = a.to; weight = weight }

-- the arc with the weight that the map has for it
abbrev pub weighed_by : BTreeMap ℕ ℕ → InArc → InArc
weighed_by found a = with_weight (get nat_cmp found (key_of a.from a.to)) a

-- one of these arcs has this key
abbrev pub HasKey : List InArc → ℕ → Type 0
HasKey arcs key = (a : InArc) × Contains arcs a × (key_of a.from a.to ≡ key)

-- of the keys in the map, the set has those of these arcs
abbrev pub AreMet : BTreeMap ℕ ℕ → List InArc → BTreeSet ℕ → Type 0
AreMet found arcs met = (key : ℕ) → IsSome (get nat_cmp found key) → (IsTrue (contains nat_cmp met key) ↔ HasKey arcs key)
