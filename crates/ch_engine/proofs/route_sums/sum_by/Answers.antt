-- Trees stay those of their nodes.
use Rattle.std.proofs.Common.{Option, subst}
use Rattle.std.specs.Prelude.{MatchOption, ⊤}
use Rattle.ch_engine.specs.PlaceTrees.{ArePairTrees}
use Rattle.ch_engine.specs.declared.pair_trees.PairTrees.{PairTrees}
use Rattle.ch_engine.proofs.route_sums.sum_by.Goals as goal

pub returns-in-Some-clause-trees : goal.returns-in-Some-clause-trees
returns-in-Some-clause-trees c = λ H lines values are. c.sum.ensures.trees H lines values
    (subst (λ (o : Option PairTrees). MatchOption o ⊤ (ArePairTrees H lines values)) c.in-Some.is are)
