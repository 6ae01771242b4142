-- Each node with a cost is still listed as touched, and each turn takes one node off the list.
use Rattle.std.proofs.Common.{◌≡◌, length, vec_len}
use Rattle.ch_contract.specs.KnownCosts.{AreTouched, known_of}
use Rattle.ch_contract.proofs.known_costs.KnownCosts.clear.Given as goal

abbrev pub invariant-loop-node : goal.invariant-loop-node
invariant-loop-node g l = (length l.self.costs.items ≡ length l.initial.self.costs.items) × AreTouched (known_of g.K.HeldCost.cost l.self)

abbrev pub decreases-loop-node : goal.decreases-loop-node
decreases-loop-node g l = vec_len l.self.touched
