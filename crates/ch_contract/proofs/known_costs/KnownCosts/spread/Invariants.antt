-- The legs before the current one were put in front of the chain, and there is capacity for the others.
use Rattle.std.proofs.Common.{◌-◌, length, take}
use Rattle.ch_contract.specs.KnownCosts.{HasRoom, Lowers, IsOneMore, known_of, chain_start_of}
use Rattle.ch_contract.proofs.known_costs.KnownCosts.spread.Given as goal

-- the legs so far were put in front, and there is room for the others
abbrev pub invariant-loop-leg : goal.invariant-loop-leg
invariant-loop-leg g l = Lowers (IsOneMore (take l.leg-index l.legs) (chain_start_of g.K.HeldCost.cost l.step) l.wanted)
    (known_of g.K.HeldCost.cost l.fn.self) (known_of g.K.HeldCost.cost l.self) × HasRoom (length l.legs - l.leg-index) l.self
