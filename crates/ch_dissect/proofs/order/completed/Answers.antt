-- An order gets the nodes of the list, and then all others.
use Rattle.std.proofs.Common.{◌≡◌, false, arith}
use Rattle.std.specs.Prelude.{replicate}
use Rattle.std.proofs.lemmas.Grind.{common_steps}
use Rattle.ch_dissect.proofs.Begun.{all_put, begun_empty, each_more, put_next, put_none, whole_order}
use Rattle.ch_dissect.proofs.order.completed.Goals as goal

pub loop-place-init : goal.loop-place-init
loop-place-init c =
    let marks : c.in_ok-taken.taken.items ≡ replicate c.args.n false = grind (arith, common_steps) in
    record {
      begun = begun_empty c.args.n c.in_ok-nodes.nodes.items c.in_ok-taken.taken.items c.in_ok-nodes.ensures.items marks;
      same = λ _. c.in_ok-nodes.ensures.items;
    }

pub loop-place-preserved : goal.loop-place-preserved
loop-place-preserved c = record {
  begun = c.in_ok-take.ensures.begun;
  same = λ is. put_next c.args.n c.loop-place.place c.args.list.now c.loop-place.nodes.items c.take.new.nodes.items is
      c.loop-place-test.true (c.loop-place.invariant.same is) c.in_ok-take.ensures.put;
}

pub loop-node-init : goal.loop-node-init
loop-node-init c = record {
  begun = c.loop-place.invariant.begun;
  each = λ v lt. absurd (omega arith);
  same = λ is. all_put c.loop-place.place c.args.list.now c.loop-place.nodes.items c.loop-place-test.false (c.loop-place.invariant.same is);
}

pub loop-node-preserved : goal.loop-node-preserved
loop-node-preserved c = record {
  begun = c.in_ok-take-2.ensures.begun;
  each = each_more c.args.n c.loop-node.node c.loop-node.nodes.items c.take-in-loop-node.new.nodes.items c.in_ok-take-2.ensures.put
      c.loop-node-test.true c.loop-node.invariant.each;
  same = λ is. put_none c.args.n c.loop-node.node c.args.list.now c.loop-node.nodes.items c.take-in-loop-node.new.nodes.items is
      c.loop-node-test.true (c.loop-node.invariant.same is) c.in_ok-take-2.ensures.put;
}

pub returns : goal.returns
returns c = record {
  order = whole_order c.args.n c.loop-node.nodes.items c.loop-node.taken.items c.loop-node.invariant.begun
      (λ v lt. c.loop-node.invariant.each v (omega arith));
  same = c.loop-node.invariant.same;
}
