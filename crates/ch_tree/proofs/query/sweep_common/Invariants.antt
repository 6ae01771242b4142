-- Both passes have come to this place, and the least sum is that of the places before it.
use Rattle.ch_hierarchy.specs.declared.side.Side.TheVariants.{Up, Down}
use Rattle.ch_tree.specs.Tree.{IsSweptTo, IsSumSoFar}
use Rattle.ch_tree.proofs.query.sweep_common.Given as goal

abbrev pub invariant-loop-place : goal.invariant-loop-place
invariant-loop-place l = IsSweptTo l.hierarchy Up l.parents l._start l.least l.place l.ups.items
    × IsSweptTo l.hierarchy Down l.parents l._end l.least l.place l.downs.items
    × IsSumSoFar l.parents l.meeting l.place l.ups.items l.downs.items l.least

abbrev pub decreases-loop-place : goal.decreases-loop-place
decreases-loop-place l = l.place
