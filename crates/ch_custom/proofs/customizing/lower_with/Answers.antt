-- A step lowers the legs over one more node.
use Rattle.std.proofs.Common.{arith}
use Rattle.ch_custom.proofs.theory.StepPairs.{taken_node, taken_ready, has_row, rows_ready, pairs_keep}
use Rattle.ch_custom.proofs.customizing.lower_with.Goals as goal

pub relax-requires-clause-middle : goal.relax-requires-clause-middle
relax-requires-clause-middle c =
    let low = (taken_node c.args.graph.now c.args.order.now c.args._rows.now c.nodes.ensures.limits c.requires.ready c.args._own.now
    c.requires.own c.args.place c.requires.place c.args.metric.now c.requires.metric c.args.taken.now c.requires.taken) in
    let many = c.nodes.ensures.nodes in
    omega arith

pub relax-requires-clause-taken : goal.relax-requires-clause-taken
relax-requires-clause-taken c =
    taken_ready c.args.graph.now c.args.order.now c.args._rows.now c.nodes.ensures.limits c.requires.ready c.args._own.now
    c.requires.own c.args.place c.requires.place c.args.metric.now c.requires.metric c.args.taken.now c.requires.taken

pub relax-requires-clause-inside : goal.relax-requires-clause-inside
relax-requires-clause-inside c =
    has_row c.args.graph.now c.args.order.now c.args._rows.now c.nodes.ensures.limits c.requires.ready c.args._own.now
    c.requires.own c.args.place c.requires.place c.args.metric.now c.requires.metric c.args.taken.now c.requires.taken

pub relax-requires-clause-rows : goal.relax-requires-clause-rows
relax-requires-clause-rows c =
    rows_ready c.args.graph.now c.args.order.now c.args._rows.now c.nodes.ensures.limits c.requires.ready c.args._own.now
    c.requires.own c.args.place c.requires.place c.args.metric.now c.requires.metric c.args.taken.now c.requires.taken

pub returns : goal.returns
returns c = pairs_keep c.args.graph.now c.args.order.now c.args._rows.now c.nodes.ensures.limits c.requires.ready c.args._own.now
    c.requires.own c.args.place c.requires.place c.args.metric.now c.requires.metric c.args.taken.now c.requires.taken _
    c.nodes.ensures.nodes _ c.relax.ensures
