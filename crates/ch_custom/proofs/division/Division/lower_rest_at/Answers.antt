-- A node with a row to the rest lowers legs of it, and another node lowers none.
use Rattle.std.proofs.Common.{Contains, sym, subst, arith}
use Rattle.ch_custom.proofs.theory.Parts.{row_inside, rows_in_part, none_pass}
use Rattle.ch_custom.proofs.theory.Steps.{nodes, step_passed}
use Rattle.ch_custom.proofs.division.Division.lower_rest_at.Goals as goal

pub has_part-requires : goal.has_part-requires
has_part-requires c y has =
    let d = c.requires.division in
    let below = row_inside _ _ d.ready.sound c.args.place y c.requires.place (subst (λ z. Contains z y) c.row.ensures has) in
    let size = d.divided.size in
    omega arith

pub returns-then-not-has_part : goal.returns-then-not-has_part
returns-then-not-has_part c =
    let d = c.requires.division in
    let limits = c.nodes-nodes.ensures.limits in
    let many = (nodes _ _ _ limits d.ready).count in
    let place = c.requires.place in
    step_passed _ _ _ limits d.ready c.args.own.now (rows_in_part _ _ _ d.ready _ _ _ c.requires.own) c.args.place (omega arith)
    (none_pass _ _ _ d.ready _ _ _ c.requires.own c.args.place
    (λ y has. c.has_part.ensures c.if-not-has_part.true y (subst (λ z. Contains z y) (sym c.row.ensures) has))) _ _ c.requires.metric

pub lower_with-requires-clause-own : goal.lower_with-requires-clause-own
lower_with-requires-clause-own c = rows_in_part _ _ _ c.requires.division.ready _ _ _ c.requires.own
