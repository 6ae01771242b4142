-- The row of the search has places among the targets.
use Rattle.ch_rows.specs.Near.{wanted_within}
use Rattle.ch_rows.proofs.GraphRows.{row_places}
use Rattle.ch_run.proofs.run.near_lines.SearchedLinesLineJob.push.Goals as goal

pub push_near_row-requires : goal.push_near_row-requires
push_near_row-requires c =
    let wanted = wanted_within c.self.inside.near.now c.self.inside.within in
    rw (c.targets.ensures, c.row.ensures) (row_places wanted c.args.item.now _ c.in_ok-make_row.ensures.row)
