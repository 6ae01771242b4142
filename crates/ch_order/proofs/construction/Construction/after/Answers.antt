-- One more given node may be contracted, because it is a node that remains, and it follows those before it.
use Rattle.ch_order.proofs.StepsMade.{given_none}
use Rattle.ch_order.proofs.GivenCalls.{given_taken, ready_given}
use Rattle.ch_order.proofs.construction.Construction.after.Goals as goal

pub loop-node-init : goal.loop-node-init
loop-node-init g c =
    let first = c.in_ok-construction.ensures in
    record {
      sizes = first.sizes;
      nodes = first.nodes;
      after = given_none _ _ _ first.begun;
      ready = first.ready c.args.hops.number;
    }

pub take-requires : goal.take-requires
take-requires g c = record { next = ready_given _ _ _ _ _ c.requires.nodes c.loop-node-test.true c.loop-node.invariant }

pub loop-node-preserved : goal.loop-node-preserved
loop-node-preserved g c =
    let next = c.in_ok-taken.ensures in
    given_taken _ _ _ _ _ c.requires.nodes c.loop-node-test.true c.loop-node.invariant _ _ next.sizes next.taken
