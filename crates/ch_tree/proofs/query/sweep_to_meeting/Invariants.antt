-- Both passes have come to these places, and what is above both nodes is above both places.
use Rattle.std.proofs.Common.{ℕ, ◌+◌}
use Rattle.ch_hierarchy.specs.declared.side.Side.TheVariants.{Up, Down}
use Rattle.ch_tree.specs.Tree.{IsAbove, place_of, IsSwept}
use Rattle.ch_tree.proofs.query.sweep_to_meeting.Given as goal

abbrev pub invariant-loop-from : goal.invariant-loop-from
invariant-loop-from l = IsSwept l.hierarchy Up l.parents l.start l.from l.ups.items
    × IsSwept l.hierarchy Down l.parents l.end l.to l.downs.items
    × ((x : ℕ) → IsAbove l.parents (place_of l.hierarchy l.start) x → IsAbove l.parents (place_of l.hierarchy l.end) x →
    IsAbove l.parents l.from x × IsAbove l.parents l.to x)

abbrev pub decreases-loop-from : goal.decreases-loop-from
decreases-loop-from l = l.from + l.to
