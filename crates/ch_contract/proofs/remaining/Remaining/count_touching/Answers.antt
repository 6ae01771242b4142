-- The lengths of a node's two rows add up to the number of legs that touch it.
use Rattle.std.proofs.Common.{arith}
use Rattle.ch_contract.specs.Remaining.{legs_of}
use Rattle.ch_contract.proofs.theory.Counts.{rows_touching, touching_most}
use Rattle.ch_contract.proofs.remaining.Remaining.count_touching.Goals as goal

pub returns-clause-count : goal.returns-clause-count
returns-clause-count c =
    let count = rows_touching c.args.self.now.nodes c.args.node (legs_of c.args.self.now) c.out_legs.result.now c.in_legs.result.now
    c.out_legs.ensures.limits c.out_legs.ensures.legs c.in_legs.ensures.legs in
    omega arith

pub returns-clause-small : goal.returns-clause-small
returns-clause-small c =
    let count = rows_touching c.args.self.now.nodes c.args.node (legs_of c.args.self.now) c.out_legs.result.now c.in_legs.result.now
    c.out_legs.ensures.limits c.out_legs.ensures.legs c.in_legs.ensures.legs in
    omega (arith, count, touching_most c.args.self.now.nodes (legs_of c.args.self.now) c.args.node, c.out_legs.ensures.count)
