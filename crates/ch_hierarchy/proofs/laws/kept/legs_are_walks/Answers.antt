-- Each leg of a kept hierarchy has a walk of its weight and its number of arcs between the same nodes.
use Rattle.ch_hierarchy.proofs.theory.LegWalks.{leg_walk}
use Rattle.ch_hierarchy.proofs.laws.kept.legs_are_walks.Goals as goal

pub returns : goal.returns
returns c = leg_walk
