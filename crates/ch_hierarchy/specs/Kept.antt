-- When a hierarchy of any origin is right for a graph.
use Rattle.std.specs.Prelude.{◌≡◌, ◌≢◌, ℕ, Contains, Option, Some, None, ◌⊎◌}
use Rattle.ch_graph.specs.declared.cost.Cost.{Cost}
use Rattle.ch_graph.specs.declared.arc.InArc.{InArc}
use Rattle.ch_graph.specs.Cost.{IsAtMost, cost_sum}
use Rattle.ch_graph.specs.Graph.{Network}
use Rattle.ch_graph.specs.WalkLaws.{arc_cost}
use Rattle.ch_hierarchy.specs.declared.leg.Leg.{Leg}
use Rattle.ch_hierarchy.specs.Rows.{row}
use Rattle.ch_hierarchy.specs.Hierarchy.{LevelsAndLegs, nodes_of, IsLevelled}
use Rattle.ch_hierarchy.specs.Paths.{IsMeeting}

-- a leg from u to w, which is in a row of the lower of the two
abbrev pub IsLeg : LevelsAndLegs → ℕ → ℕ → Cost → Option ℕ → Type 0
IsLeg H u w c m =
    (l : Leg) × (l.cost ≡ c) × (l.middle ≡ m) × ((Contains (row H.up u) l × (l.node ≡ w)) ⊎ (Contains (row H.down w) l × (l.node ≡ u)))

-- a leg without a middle is an arc; a leg with a middle is the sum of the two legs of that middle
abbrev pub IsFounded : Network → LevelsAndLegs → ℕ → ℕ → Cost → Option ℕ → Type 0
IsFounded g H u w c None = (c.arcs ≡ 1) × Contains g.arcs (record { from = u; to = w; weight = c.weight })
IsFounded g H u w c (Some v) =
    (a b : Leg) × Contains (row H.down v) a × (a.node ≡ u) × Contains (row H.up v) b × (b.node ≡ w) × (c ≡ cost_sum a.cost b.cost)

-- some leg has the ends of the arc and costs no more
abbrev pub HasLegWithin : LevelsAndLegs → InArc → Type 0
HasLegWithin H a = (c : Cost) × (m : Option ℕ) × IsLeg H a.from a.to c m × IsAtMost c (arc_cost a)

-- going up from s to some node, and down from there to t, costs at most `most`
abbrev pub MeetsWithin : LevelsAndLegs → ℕ → ℕ → Cost → Type 0
MeetsWithin H s t most = (m : ℕ) × (c : Cost) × IsMeeting H s t m c × IsAtMost c most

-- for each two legs through v between different nodes, some way up and then down costs no more
abbrev pub IsCovered : LevelsAndLegs → ℕ → Type 0
IsCovered H v = (a b : Leg) → Contains (row H.down v) a → Contains (row H.up v) b → a.node ≢ b.node →
    MeetsWithin H a.node b.node (cost_sum a.cost b.cost)

pub record IsKept (g : Network) (H : LevelsAndLegs) : Type 0 where
  pub nodes : nodes_of H ≡ g.nodes
  pub levelled : IsLevelled H
  pub founded : (u w : ℕ) (c : Cost) (m : Option ℕ) → IsLeg H u w c m → IsFounded g H u w c m
  pub arcs : (a : InArc) → Contains g.arcs a → a.from ≢ a.to → HasLegWithin H a
  pub covered : (v : ℕ) → IsCovered H v
