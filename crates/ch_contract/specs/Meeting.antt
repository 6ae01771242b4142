-- Chains of one or two legs and then a known chain.
use Rattle.std.specs.Prelude.{◌≢◌, ℕ, ◌<◌, List, Contains, All, ◌⊎◌}
use Rattle.ch_graph.specs.declared.cost.Cost.{Cost}
use Rattle.ch_graph.specs.Cost.{IsAtMost, cost_sum}
use Rattle.ch_hierarchy.specs.declared.leg.Leg.{Leg}
use Rattle.ch_hierarchy.specs.Rows.{row}
use Rattle.ch_contract.specs.KnownCosts.{Known, IsLegLight, known_at}
use Rattle.ch_contract.specs.HeldCosts.{IsKnownCost}

-- lists of legs among n nodes that may be added to known chains
abbrev pub AreListsWithin : ℕ → ℕ → List (List Leg) → Type 0
AreListsWithin limit n lists = (x : ℕ) → All (IsLegLight limit n) (row lists x)

-- the cost of a leg may be added to each known cost
abbrev pub AreSmall : ℕ → Known → Type 0
AreSmall limit h = (x : ℕ) → IsKnownCost limit (known_at h x)

-- a leg of the cost `first`, a leg of the list and a known chain together cost at most `most`
abbrev pub IsMetBeyond : Known → List Leg → Cost → Cost → Type 0
IsMetBeyond h legs first most = (l : Leg) × Contains legs l × IsAtMost (cost_sum (known_at h l.node) (cost_sum l.cost first)) most

-- this leg and a known chain cost at most `most`, or this leg, one more leg and a known chain do
abbrev pub IsMetAt : Known → List (List Leg) → Leg → Cost → ℕ → Type 0
IsMetAt h lists l most hops =
    IsAtMost (cost_sum (known_at h l.node) l.cost) most ⊎ ((1 < hops) × IsMetBeyond h (row lists l.node) l.cost most)

-- the same for some leg of the start that does not touch the avoided node
abbrev pub IsMet : Known → List (List Leg) → ℕ → ℕ → Cost → ℕ → Type 0
IsMet h lists avoided start most hops = (l : Leg) × Contains (row lists start) l × (l.node ≢ avoided) × IsMetAt h lists l most hops
