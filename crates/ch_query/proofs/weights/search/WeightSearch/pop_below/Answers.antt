-- If the least key is below the limit its state leaves the queue, and else all keys are at least the limit.
use Rattle.std.proofs.Common.{refl}
use Rattle.ch_query.proofs.by_weight.Queues.{keys_from, popped_state}
use Rattle.ch_query.proofs.weights.search.WeightSearch.pop_below.Goals as goal

pub returns-then-weight-limit : goal.returns-then-weight-limit
returns-then-weight-limit c = (keys_from _ _ _ c.in_ok-weight.ensures c.if-weight-limit.true, refl)

pub returns : goal.returns
returns c = popped_state c.args.self.now _ _ _ c.in_ok-weight.ensures c.if-weight-limit.false _ c.pop.ensures.least c.pop.ensures.rest refl
