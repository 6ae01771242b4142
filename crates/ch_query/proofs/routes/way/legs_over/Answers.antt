-- The legs of both ways back, one of them reversed, fit into their list, and are the legs of the route over the meet.
use Rattle.std.proofs.Common.{◌∙◌, ap, arith, length}
use Rattle.ch_query.proofs.routing.RouteAnswers.{room_down, room_up, legs_over_meet}
use Rattle.ch_query.proofs.routes.way.legs_over.Goals as goal

pub descend-requires-clause-reached : goal.descend-requires-clause-reached
descend-requires-clause-reached c =
    let q = c.requires in
    let e = c.in_ok-reserve.ensures in
    let none = e.items ∙ q.empty in
    let size = ap length none in
    let ok = c.reserve.new.self.ok in
    room_down c.args.hierarchy.now q.kept c.args.start c.args.end c.args.up.now c.args.down.now c.args.met.1 c.args.met.0 q.meeting q.past
    q.meet
    c.reserve.new.self none (omega (arith, size, ok)) (omega (arith, e))

pub descend-requires-2-clause-reached : goal.descend-requires-2-clause-reached
descend-requires-2-clause-reached c =
    let q = c.requires in
    let e = c.in_ok-reserve.ensures in
    let none = e.items ∙ q.empty in
    let size = ap length none in
    let ok = c.reserve.new.self.ok in
    let fall = c.descend.ensures in
    let turn = c.reverse.ensures in
    room_up c.args.hierarchy.now q.kept c.args.start c.args.end c.args.up.now c.args.down.now c.args.met.1 c.args.met.0 q.meeting q.past
    q.meet
    c.reserve.new.self none (omega (arith, size, ok)) (omega (arith, e))
    c.descend.new.pending c.reverse.new.self fall.traced fall.capacity turn.permutation turn.len turn.capacity

pub returns : goal.returns
returns c =
    let q = c.requires in
    let e = c.in_ok-reserve.ensures in
    let none = e.items ∙ q.empty in
    let size = ap length none in
    let ok = c.reserve.new.self.ok in
    let fall = c.descend.ensures in
    let turn = c.reverse.ensures in
    let rise = c.descend-2.ensures in
    record {
      legs = legs_over_meet c.args.hierarchy.now q.kept c.args.start c.args.end c.args.up.now c.args.down.now c.args.met.1 c.args.met.0
          q.meeting q.past q.meet
          c.reserve.new.self none (omega (arith, size, ok)) (omega (arith, e))
          c.descend.new.pending c.reverse.new.self fall.traced fall.capacity turn.permutation turn.len turn.capacity
          c.descend-2.new.pending rise.traced rise.capacity turn.items;
    }
