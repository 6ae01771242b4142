-- The lowered legs are those that nodes have when they are taken, in a hierarchy that is kept.
use Rattle.ch_custom.proofs.theory.Exact.{exact_start, legs_taken}
use Rattle.ch_custom.proofs.pruning.prune.Goals as goal

pub make_exact-requires-clause-legs : goal.make_exact-requires-clause-legs
make_exact-requires-clause-legs c =
    legs_taken _ _ _ _ c.nodes-nodes.ensures.limits c.requires.ready c.requires.levels _ c.requires.metric

pub make_exact-requires-clause-metric : goal.make_exact-requires-clause-metric
make_exact-requires-clause-metric c =
    exact_start _ _ _ _ c.nodes-nodes.ensures.limits c.requires.ready c.requires.levels _ c.requires.metric

pub drop_beaten-requires-clause-legs : goal.drop_beaten-requires-clause-legs
drop_beaten-requires-clause-legs c =
    legs_taken _ _ _ _ c.nodes-nodes.ensures.limits c.requires.ready c.requires.levels _ c.requires.metric
