-- Contraction with enough shortcuts keeps the least costs between the remaining nodes.
use Rattle.ch_contract.proofs.theory.EnoughKept.{enough_keeps_least_costs}
use Rattle.ch_contract.proofs.laws.keeping.enough_keeps_least_costs.Goals as goal

pub returns : goal.returns
returns c = enough_keeps_least_costs
