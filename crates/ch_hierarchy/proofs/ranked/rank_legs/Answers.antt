-- Each leg of the row leads to a node with a rank.
use Rattle.std.proofs.lemmas.List.Elements.{Contains-get_or}
use Rattle.ch_hierarchy.proofs.theory.NoLeg.{no_leg}
use Rattle.ch_hierarchy.proofs.ranked.rank_legs.Goals as goal

pub rank_leg-requires-clause-leg : goal.rank_leg-requires-clause-leg
rank_leg-requires-clause-leg c = c.requires.legs _ (Contains-get_or c.args.legs.now c.loop-leg.leg-index no_leg c.loop-leg-test.true)
