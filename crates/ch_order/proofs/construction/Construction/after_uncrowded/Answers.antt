-- One more given node may be contracted, if few legs touch it. If many do, it is the one that is named.
use Rattle.std.proofs.Common.{arith, refl}
use Rattle.ch_order.proofs.StepsMade.{given_none}
use Rattle.ch_order.proofs.GivenCalls.{few_more, given_taken, ready_given}
use Rattle.ch_order.proofs.construction.Construction.after_uncrowded.Goals as goal

pub loop-node-init : goal.loop-node-init
loop-node-init g c =
    let first = c.in_ok-construction.ensures in (
      record {
        sizes = first.sizes;
        nodes = first.nodes;
        after = given_none _ _ _ first.begun;
        ready = first.ready c.args.hops.number;
      },
      λ j L lt begun crowded. absurd (omega arith),
    )

pub is_crowded-requires : goal.is_crowded-requires
is_crowded-requires g c = (ready_given _ _ _ _ _ c.requires.nodes c.loop-node-test.true c.loop-node.invariant.0).node

pub take-requires : goal.take-requires
take-requires g c = record { next = ready_given _ _ _ _ _ c.requires.nodes c.loop-node-test.true c.loop-node.invariant.0 }

pub loop-node-preserved : goal.loop-node-preserved
loop-node-preserved g c =
    let next = c.in_ok-taken.ensures in
    let i = c.loop-node.invariant in (
      given_taken _ _ _ _ _ c.requires.nodes c.loop-node-test.true i.0 _ _ next.sizes next.taken,
      few_more _ _ _ _ _ c.requires.nodes c.loop-node-test.true i.0 i.1 (c.if-is_crowded.ensures.few refl),
    )
