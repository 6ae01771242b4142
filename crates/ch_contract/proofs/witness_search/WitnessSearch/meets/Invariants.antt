-- No leg before the current one leads to a chain within the bound.
use Rattle.std.proofs.Common.{take, Contains}
use Rattle.std.specs.Prelude.{◌≢◌}
use Rattle.ch_hierarchy.specs.declared.leg.Leg.{Leg}
use Rattle.ch_contract.specs.KnownCosts.{known_of}
use Rattle.ch_contract.specs.Meeting.{IsMetAt}
use Rattle.ch_contract.proofs.witness_search.WitnessSearch.meets.Given as goal

-- no leg so far leads to a chain within the bound
abbrev pub invariant-loop-leg : goal.invariant-loop-leg
invariant-loop-leg g l = (k : Leg) → Contains (take l.leg-index l.leg-items) k → k.node ≢ l.avoided →
    IsMetAt (known_of g.K.HeldCost.cost l.self.known) l.lists.rows k l.fn.most l.hops → ⊥
