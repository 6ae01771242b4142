-- One more node adds the legs of its two rows, and the count does not overflow.
use Rattle.std.proofs.Common.{◌≡◌, ◌≤◌, ap, arith, length, get_or, refl}
use Rattle.ch_graph.specs.declared.limits.TheConstants.{MOST_NODES}
use Rattle.ch_hierarchy.specs.Rows.{row}
use Rattle.ch_text.proofs.Saving.{counted, row_short}
use Rattle.ch_text.proofs.hierarchy_text.count_legs.Goals as goal

pub loop-node-preserved : goal.loop-node-preserved
loop-node-preserved c =
    let H = c.args.hierarchy.now in
    let v = get_or c.args.nodes.now c.loop-node.node-index 0 in
    let ups : length c.up.result.now ≡ length (row H.up v) = ap length c.up.ensures.row in
    let downs : length c.down.result.now ≡ length (row H.down v) = ap length c.down.ensures.row in
    let up_most : length (row H.up v) ≤ MOST_NODES = row_short H c.up.ensures.levelled H.up c.up.ensures.levelled.up v in
    let down_most : length (row H.down v) ≤ MOST_NODES = row_short H c.down.ensures.levelled H.down c.down.ensures.levelled.down v in
    let few = c.loop-node.invariant.few in
    record {
      counts = counted H c.args.nodes.now c.loop-node.node-index c.loop-node.count v _ _ c.loop-node-test.true refl
          c.loop-node.invariant.counts ups downs;
      few = omega arith;
    }
