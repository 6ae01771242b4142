-- A node of the part lowers its legs, and another node lowers none.
use Rattle.std.proofs.Common.{◌∙◌, arith}
use Rattle.ch_custom.proofs.theory.Parts.{rows_in_part, others_pass, whole}
use Rattle.ch_custom.proofs.theory.StepPairs.{taken_here}
use Rattle.ch_custom.proofs.theory.Steps.{nodes, step_passed}
use Rattle.ch_custom.proofs.division.Division.lower_part_at.Goals as goal

pub returns-then-self-node : goal.returns-then-self-node
returns-then-self-node c =
    let d = c.requires.division in
    let limits = c.nodes-nodes.ensures.limits in
    let place = c.requires.place in
    let many = (nodes _ _ _ limits d.ready).count in
    step_passed _ _ _ limits d.ready c.args.own.now (rows_in_part _ _ _ d.ready _ _ _ c.requires.own) c.args.place (omega arith)
    (others_pass _ _ _ d.ready _ _ _ c.requires.own _ d.divided c.requires.part c.args.place (omega arith) c.if-self-node.true) _ _
    c.requires.metric

pub lower_with-requires-clause-own : goal.lower_with-requires-clause-own
lower_with-requires-clause-own c = rows_in_part _ _ _ c.requires.division.ready _ _ _ c.requires.own

pub lower_with-requires-clause-taken : goal.lower_with-requires-clause-taken
lower_with-requires-clause-taken c =
    let d = c.requires.division in
    taken_here _ _ _ c.nodes-nodes.ensures.limits d.ready c.args.own.now c.args.place c.args.place c.requires.place (omega arith)
    (whole _ _ _ d.ready _ _ _ c.requires.own c.args.place c.requires.place c.if-self-node.false) c.args.metric.now c.requires.metric _
    (c.as_slice.ensures.value ∙ c.in_ok-copy_row.ensures)
