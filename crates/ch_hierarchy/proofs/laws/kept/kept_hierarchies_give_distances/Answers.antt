-- The least cost of going up and then down in a kept hierarchy is the least cost of a walk.
use Rattle.ch_hierarchy.proofs.theory.KeptWalks.{meetings_are_distances}
use Rattle.ch_hierarchy.proofs.laws.kept.kept_hierarchies_give_distances.Goals as goal

pub returns : goal.returns
returns c = meetings_are_distances
