-- The space is in the network's own hierarchy.
use Rattle.std.proofs.Common.{subst}
use Rattle.ch_hierarchy.specs.Hierarchy.{LevelsAndLegs}
use Rattle.ch_query.specs.SearchSpace.{IsRankedSpace}
use Rattle.ch_query.proofs.by_weight.LoweredWords.{space_among}
use Rattle.ch_engine.proofs.network.Network.space.Goals as goal

pub returns-clause-space : goal.returns-clause-space
returns-clause-space c =
    subst (λ (G : LevelsAndLegs). IsRankedSpace G c.args.start.side c.args.start.within c.args.start.source c.in_ok-space.space.items)
    c.hierarchy-hierarchy.ensures.same c.in_ok-space.ensures.space

pub returns-clause-among : goal.returns-clause-among
returns-clause-among c =
    space_among c.args.self.now.0 c.hierarchy-hierarchy.ensures.kept.2.levelled c.args.start.side c.args.start.within c.args.start.source
    c.in_ok-space.space.items (returns-clause-space c)
