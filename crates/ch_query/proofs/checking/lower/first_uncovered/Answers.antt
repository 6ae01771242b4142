-- The first number that is not right is the least numbered node that is not covered.
use Rattle.ch_query.proofs.faults.Firsts.{nodes_named}
use Rattle.ch_query.proofs.checking.lower.first_uncovered.Goals as goal

pub returns : goal.returns
returns g c = nodes_named c.args.hierarchy.now _ c.first_wrong.result c.nodes.ensures.nodes c.first_wrong.ensures
