-- A state at which the search stalls may stay unexpanded, so the search has gone on without its legs.
use Rattle.ch_hierarchy.proofs.code.Ranked.{node_of_rank}
use Rattle.ch_query.proofs.by_weight.WeightStalls.{stalled_goes_on}
use Rattle.ch_query.proofs.weights.search.WeightSearch.settle.Goals as goal

pub returns-then-is_stalled-clause-gone : goal.returns-then-is_stalled-clause-gone
returns-then-is_stalled-clause-gone c =
    let H = c.args.hierarchy.now in
    let n = node_of_rank H c.is_stalled.ensures.levelled c.args.rank c.requires.rank in
    stalled_goes_on H c.args.ends c.args.side c.args.self.now n.0 c.args.weight (c.requires.weighing n.0 n.1 n.2)
    (c.is_stalled.ensures.idle c.if-is_stalled.true n.0 n.1 n.2)
