-- The row of the sweep has places among the targets.
use Rattle.std.proofs.Common.{◌<◌, sym, subst}
use Rattle.ch_hierarchy.specs.Hierarchy.{nodes_of}
use Rattle.ch_rows.specs.Near.{Wanted}
use Rattle.ch_rows.proofs.GraphRows.{row_places}
use Rattle.ch_run.proofs.run.near_lines.SweptLinesLineJob.push.Goals as goal

pub push_near_row-requires : goal.push_near_row-requires
push_near_row-requires c =
    let wanted = c.self.inside.near.now in
    let node = c.args.item.now in
    let inside = subst (λ (w : Wanted). node < nodes_of w.hierarchy) (sym c.self.view_is) c.requires.item in
    rw (c.targets.ensures, c.row.ensures) (row_places wanted node _ (c.self.invariant.1 node inside))
