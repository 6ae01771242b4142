-- Each graph within the limits has a hierarchy in an order like each given one.
use Rattle.ch_contract.proofs.theory.OrdersExist.{like_exists}
use Rattle.ch_contract.proofs.laws.like.graphs_have_hierarchies_like.Goals as goal

pub returns : goal.returns
returns c = like_exists
