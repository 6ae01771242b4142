-- One more leg to the node adds the shortcuts that begin with it, so in the end the list has all shortcuts in order.
use Rattle.std.proofs.Common.{◌+◌, get_or, arith}
use Rattle.ch_contract.specs.Remaining.{legs_of}
use Rattle.ch_contract.specs.ShortcutLists.{legs_touching}
use Rattle.ch_contract.proofs.theory.RowLemmas.{leg_to_at}
use Rattle.ch_hierarchy.proofs.theory.NoLeg.{no_leg}
use Rattle.ch_contract.proofs.code.Counted.{whole_up_to, broken_off}
use Rattle.ch_contract.proofs.code.ShortcutLemmas.{boundary_next, before_next_down, before_end_down}
use Rattle.ch_contract.proofs.remaining.judging.Judging.fill.Goals as goal

pub push-requires-clause-first : goal.push-requires-clause-first
push-requires-clause-first g c =
    let t = c.args.self.now.touching in
    leg_to_at (legs_touching t.node t.up.now t.down.now) t.node t.down.now c.loop-first.first-index no_leg
    c.args.self.now.touches.to c.loop-first-test.true

pub push-requires-clause-clean : goal.push-requires-clause-clean
push-requires-clause-clean g c = c.loop-first.invariant.1

pub push-requires-clause-list : goal.push-requires-clause-list
push-requires-clause-list g c =
    let t = c.args.self.now.touching in
    let so_far = c.loop-first.invariant.0 in
    before_next_down c.args.self.now.remaining.now.nodes c.args.self.now.hops.number (legs_touching t.node t.up.now t.down.now)
    (legs_of c.args.self.now.remaining.now) t.node so_far.0 c.loop-first.first-index no_leg t.down.now c.loop-first.list.items
    c.args.self.now.touches.to so_far.1 c.loop-first-test.true so_far.2

pub loop-first-preserved : goal.loop-first-preserved
loop-first-preserved g c =
    let down = c.args.self.now.touching.down.now in (
      (
        (get_or down c.loop-first.first-index no_leg).node + 1,
        boundary_next down c.loop-first.first-index no_leg
            c.args.self.now.touches.to.0 c.loop-first-test.true,
        c.in_ok-push.ensures.list,
      ),
      c.in_ok-push.ensures.clean,
    )

pub returns : goal.returns
returns g c =
    let t = c.args.self.now.touching in
    let so_far = c.loop-first.invariant.0 in
    record {
      list = whole_up_to c.args.most _ c.loop-first.list.items (before_end_down c.args.self.now.remaining.now.nodes
          c.args.self.now.hops.number (legs_touching t.node t.up.now t.down.now)
          (legs_of c.args.self.now.remaining.now) t.node so_far.0 c.loop-first.first-index t.down.now c.loop-first.list.items
          c.args.self.now.touches.to so_far.1 c.loop-first-test.false so_far.2);
      clean = c.loop-first.invariant.1;
    }

pub returns-then-len-most-clause-list : goal.returns-then-len-most-clause-list
returns-then-len-most-clause-list g c =
    let t = c.args.self.now.touching in
    let so_far = c.loop-first.invariant.0 in
    broken_off c.args.most c.args.self.now.remaining.now.nodes c.args.self.now.hops.number (legs_touching t.node t.up.now t.down.now)
    (legs_of c.args.self.now.remaining.now) t.node so_far.0 c.loop-first.list.items c.args.self.now.touches.within c.args.self.now.within
    so_far.2 (omega (arith, c.if-len-most.true, c.len.ensures))
