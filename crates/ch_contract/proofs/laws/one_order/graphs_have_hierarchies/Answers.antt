-- Each graph within the limits has a hierarchy in each order.
use Rattle.ch_contract.proofs.theory.OrdersExist.{hierarchies_exist}
use Rattle.ch_contract.proofs.laws.one_order.graphs_have_hierarchies.Goals as goal

pub returns : goal.returns
returns c = hierarchies_exist
