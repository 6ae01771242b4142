-- The legs before the current one lead to the node or weigh more than twice as much.
use Rattle.std.proofs.Common.{◌≢◌, ◌*◌, ◌<◌, All, take}
use Rattle.ch_hierarchy.specs.declared.leg.Leg.{Leg}
use Rattle.ch_contract.proofs.remaining.near.lead_away.Given as goal

abbrev pub invariant-loop-leg : goal.invariant-loop-leg
invariant-loop-leg s = All (λ (l : Leg). l.node ≢ s.v → 2 * s.weight < l.cost.weight) (take s.leg-index s.legs)
