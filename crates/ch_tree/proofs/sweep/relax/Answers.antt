-- Each leg is offered.
use Rattle.std.proofs.Common.{arith}
use Rattle.std.proofs.lemmas.List.Elements.{Contains-get_or}
use Rattle.ch_tree.proofs.theory.Offers.{offered_step}
use Rattle.ch_tree.proofs.sweep.relax.Goals as goal

pub overflow_add-weight : goal.overflow_add-weight
overflow_add-weight c =
    let l = c.requires.legs _
    (Contains-get_or c.args.legs.now c.loop-leg.leg-index record { rank = 0; arcs = 0; weight = 0 } c.loop-leg-test.true) in
    let light = l.1 in
    let weight = c.requires.weight in
    omega arith

pub offer-requires : goal.offer-requires
offer-requires c =
    let l = c.requires.legs _
    (Contains-get_or c.args.legs.now c.loop-leg.leg-index record { rank = 0; arcs = 0; weight = 0 } c.loop-leg-test.true) in
    let low = l.0 in
    let size = c.loop-leg.invariant.size in
    omega arith

pub loop-leg-preserved : goal.loop-leg-preserved
loop-leg-preserved c =
    let l = c.requires.legs _
    (Contains-get_or c.args.legs.now c.loop-leg.leg-index record { rank = 0; arcs = 0; weight = 0 } c.loop-leg-test.true) in
    let low = l.0 in
    let size = c.loop-leg.invariant.size in
    offered_step c.args.weight c.args.legs.now c.loop-leg.leg-index record {
      rank = 0;
      arcs = 0;
      weight =
          0;
    } c.args.costs.now.items c.loop-leg.costs.items _ c.loop-leg.invariant
    c.loop-leg-test.true (omega arith) c.offer.ensures
