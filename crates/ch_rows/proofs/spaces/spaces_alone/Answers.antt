-- The spaces that the caller makes on the side of the targets are the search spaces of the targets.
use Rattle.ch_rows.proofs.Facing.{searched_spaces}
use Rattle.ch_rows.proofs.spaces.spaces_alone.Goals as goal

pub returns : goal.returns
returns c =
    let a = c.args in
    searched_spaces a.direction a.hierarchy.now a.within a.targets.now _ c.ranked_spaces_alone.result c.target_side-side.ensures
    c.ranked_spaces_alone.ensures.spaces
