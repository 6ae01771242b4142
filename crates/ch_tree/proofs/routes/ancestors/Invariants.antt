-- The places that were passed have their ranks in the list.
use Rattle.ch_tree.specs.Ancestors.{AreRanksTo}
use Rattle.ch_tree.proofs.routes.ancestors.Given as goal

abbrev pub invariant-loop-place : goal.invariant-loop-place
invariant-loop-place l = AreRanksTo l.parents l.first l.place l.ranks.items

abbrev pub decreases-loop-place : goal.decreases-loop-place
decreases-loop-place l = l.place
