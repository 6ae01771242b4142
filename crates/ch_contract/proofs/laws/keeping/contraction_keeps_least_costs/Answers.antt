-- Contraction keeps the least costs between the remaining nodes.
use Rattle.ch_contract.proofs.theory.EnoughKept.{least_costs_kept}
use Rattle.ch_contract.proofs.laws.keeping.contraction_keeps_least_costs.Goals as goal

pub returns : goal.returns
returns c = least_costs_kept
