-- The collected range is the list of all nodes in order of number.
use Rattle.std.proofs.Common.{refl, arith}
use Rattle.std.proofs.lemmas.Iterator.{items_from_collect, YieldsList-from_range}
use Rattle.ch_contract.proofs.order.all_nodes.Goals as goal

pub returns : goal.returns
returns c = items_from_collect _ c.collect.ensures.ran (YieldsList-from_range 0 c.args.nodes c.args.nodes refl (omega arith))
