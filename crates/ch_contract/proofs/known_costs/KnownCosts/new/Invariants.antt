-- All costs so far are the cost of never.
use Rattle.std.proofs.Common.{◌≡◌, map, replicate}
use Rattle.ch_contract.specs.HeldCosts.{never}
use Rattle.ch_contract.proofs.known_costs.KnownCosts.new.Given as goal

abbrev pub invariant-loop : goal.invariant-loop
invariant-loop g l = map g.K.HeldCost.cost l.costs.items ≡ replicate l.counter never
