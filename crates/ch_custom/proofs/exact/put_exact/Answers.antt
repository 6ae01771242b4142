-- The row of the next node is written over one with as many pairs.
use Rattle.std.proofs.Common.{length, sym, ◌∙◌, ap, arith}
use Rattle.std.proofs.lemmas.List.{length-map}
use Rattle.std.specs.Prelude.{slice_index}
use Rattle.ch_custom.specs.LegPairs.{pairs_row}
use Rattle.ch_custom.proofs.theory.Exact.{place_below, its_node, exact_put}
use Rattle.ch_custom.proofs.theory.ExactRows.{node_in}
use Rattle.ch_custom.proofs.exact.put_exact.Goals as goal

pub put_row-requires-clause-node : goal.put_row-requires-clause-node
put_row-requires-clause-node c =
    let it = its_node c.args.graph.now c.args.order.now c.args._rows.now c.nodes-nodes.ensures.limits c.requires.ready c.args.place
    (place_below c.args.graph.now c.args.order.now c.args._rows.now c.nodes-nodes.ensures.limits c.requires.ready c.args.place
    c.requires.place) in
    let size = c.requires.metric.size in
    omega arith

pub put_row-requires-clause-size : goal.put_row-requires-clause-size
put_row-requires-clause-size c =
    let old = c.requires.metric.each c.args.place (place_below c.args.graph.now c.args.order.now c.args._rows.now
    c.nodes-nodes.ensures.limits c.requires.ready c.args.place
    c.requires.place) in
    sym (length-map c.args.row.now node_in) ∙ ap length (c.requires.row.ends ∙ sym old.ends)
    ∙ length-map (pairs_row c.args.metric.now (slice_index c.args.order.now c.args.place)) node_in

pub returns : goal.returns
returns c =
    exact_put c.args.graph.now c.args.order.now c.args._rows.now c.nodes-nodes.ensures.limits c.requires.ready c.args.place
    c.args.metric.now _ c.args.row.now (place_below c.args.graph.now c.args.order.now c.args._rows.now c.nodes-nodes.ensures.limits
    c.requires.ready c.args.place
    c.requires.place) c.requires.metric c.requires.row c.requires.exact c.put_row.ensures
