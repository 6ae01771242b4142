-- No second leg before the current one leads to a chain within the bound.
use Rattle.std.proofs.Common.{take, Contains}
use Rattle.ch_graph.specs.Cost.{IsAtMost, cost_sum}
use Rattle.ch_hierarchy.specs.declared.leg.Leg.{Leg}
use Rattle.ch_contract.specs.KnownCosts.{known_at, known_of}
use Rattle.ch_contract.proofs.witness_search.WitnessSearch.meets_beyond.Given as goal

-- no leg so far leads to a chain within the bound
abbrev pub invariant-loop-leg : goal.invariant-loop-leg
invariant-loop-leg g l = (k : Leg) → Contains (take l.leg-index l.legs) k →
    IsAtMost (cost_sum (known_at (known_of g.K.HeldCost.cost l.self.known) k.node) (cost_sum k.cost (g.K.HeldCost.cost l.first)))
    (g.K.HeldCost.cost l.most) → ⊥
