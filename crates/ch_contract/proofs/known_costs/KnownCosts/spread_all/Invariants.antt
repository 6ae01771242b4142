-- The steps before the current one have lowered the known costs of all nodes that a leg leads to.
use Rattle.std.proofs.Common.{take, map}
use Rattle.ch_contract.specs.KnownCosts.{Lowers, IsOneMoreOf, known_of, chain_start_of}
use Rattle.ch_contract.proofs.known_costs.KnownCosts.spread_all.Given as goal

-- the steps so far were spread
abbrev pub invariant-loop-step : goal.invariant-loop-step
invariant-loop-step g l =
    Lowers (IsOneMoreOf l.lists.rows (map (chain_start_of g.K.HeldCost.cost) (take l.step-index l.front)) l.wanted)
    (known_of g.K.HeldCost.cost l.fn.self) (known_of g.K.HeldCost.cost l.self)
