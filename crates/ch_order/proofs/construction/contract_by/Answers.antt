-- The given nodes are different, since an order begins with them.
use Rattle.std.proofs.Common.{rules}
use Rattle.ch_order.proofs.GivenCalls.{first_differ}
use Rattle.ch_order.proofs.construction.contract_by.Goals as goal

pub after-requires : goal.after-requires
after-requires g c = (search rules, first_differ c.args.graph.now c.args.given.now c.args.others.now c.requires.order)
