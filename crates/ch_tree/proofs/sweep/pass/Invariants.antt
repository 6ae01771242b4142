-- The pass has come to this place.
use Rattle.ch_tree.specs.Tree.{IsSweptTo}
use Rattle.ch_tree.proofs.sweep.pass.Given as goal

abbrev pub invariant-loop-place : goal.invariant-loop-place
invariant-loop-place l = IsSweptTo l.hierarchy l.side l.parents l.start l.bound l.place l.costs.items

abbrev pub decreases-loop-place : goal.decreases-loop-place
decreases-loop-place l = l.place
