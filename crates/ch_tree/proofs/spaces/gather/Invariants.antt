-- The places that were passed have their entries.
use Rattle.ch_tree.specs.Spaces.{AreGatheredTo, IsBeatenAt}
use Rattle.ch_tree.proofs.spaces.gather.Given as goal

abbrev pub invariant-loop-place : goal.invariant-loop-place
invariant-loop-place l = AreGatheredTo (IsBeatenAt l.hierarchy l.side l.costs) l.parents l.first l.most l.place l.costs l.found.items

abbrev pub decreases-loop-place : goal.decreases-loop-place
decreases-loop-place l = l.place
