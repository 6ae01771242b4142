-- A contraction with witnesses of one leg is one with the bound or a lesser one.
use Rattle.std.proofs.Common.{arith}
use Rattle.ch_order.proofs.QuickSteps.{ready_with, taken_within}
use Rattle.ch_order.proofs.construction.Construction.take_directly.Goals as goal

pub take-requires : goal.take-requires
take-requires c =
    let next = c.requires.next in
    record {
      next = ready_with c.args.hops.number c.direct.result.number c.args.self c.args.node c.forget.new.self next
          (c.forget.ensures _ _ _ next.ready.0.idle);
    }

pub returns : goal.returns
returns c =
    let next = c.requires.next in
    let t = c.in_ok-taken.ensures in
    let k = c.direct.result.number in
    let before = ready_with c.args.hops.number k c.args.self c.args.node c.forget.new.self next
    (c.forget.ensures _ _ _ next.ready.0.idle) in
    let is = taken_within k c.args.hops.number (record c.args.self { room = c.forget.new.self }) c.in_ok-taken.taken c.args.node _
    (omega (arith, c.direct.ensures)) (omega (arith, c.direct.ensures, c.args.hops.in_range.0)) before t.sizes t.taken
    c.forget-2.new.self (c.forget-2.ensures _ _ _ t.taken.ready.0.idle, t.taken.ready.1) in
    record {
      sizes = is.sizes;
      nodes = is.nodes;
      step = is.step;
      size = is.size;
      gone = is.gone;
      same = is.same;
      ready = is.ready;
    }
