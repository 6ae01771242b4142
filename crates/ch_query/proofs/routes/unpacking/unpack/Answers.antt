-- A shortcut that is split, or an arc that is appended, leaves the same arcs to come, and capacity for all of them.
use Rattle.ch_query.proofs.routing.UnpackingSteps.{unpacking_ends, room_for_two, room_for_arc, arc_step, arc_less, split_step, split_less}
use Rattle.ch_query.proofs.routes.unpacking.unpack.Goals as goal

pub split-requires-clause-room : goal.split-requires-clause-room
split-requires-clause-room c =
    let e = c.in-Some.ensures in
    room_for_two c.args.hierarchy.now c.requires.kept _ _ _ c.loop-leg.invariant c.pop.new.self c.in-Some.leg e.items e.capacity
    c.in-Some-middle.middle c.in-Some-middle.is

pub loop-leg-smaller-in-Some-middle : goal.loop-leg-smaller-in-Some-middle
loop-leg-smaller-in-Some-middle c =
    let e = c.in-Some.ensures in
    split_less c.args.hierarchy.now c.requires.kept _ _ _ c.loop-leg.invariant c.pop.new.self c.in-Some.leg e.items e.capacity
    c.in-Some-middle.middle c.split.new.pending
    c.in-Some-middle.is c.split.ensures.split

pub loop-leg-preserved-in-Some-middle : goal.loop-leg-preserved-in-Some-middle
loop-leg-preserved-in-Some-middle c =
    let e = c.in-Some.ensures in
    split_step c.args.hierarchy.now c.requires.kept _ _ _ c.loop-leg.invariant c.pop.new.self c.in-Some.leg e.items e.capacity
    c.in-Some-middle.middle c.split.new.pending
    c.in-Some-middle.is c.split.ensures.split c.split.ensures.capacity

pub push_reserved-requires : goal.push_reserved-requires
push_reserved-requires c =
    let e = c.in-Some.ensures in
    room_for_arc c.args.hierarchy.now c.requires.kept _ _ _ c.loop-leg.invariant c.pop.new.self c.in-Some.leg e.items e.capacity

pub loop-leg-smaller : goal.loop-leg-smaller
loop-leg-smaller c =
    let e = c.in-Some.ensures in
    arc_less c.args.hierarchy.now c.requires.kept _ _ _ c.loop-leg.invariant c.pop.new.self c.in-Some.leg e.items e.capacity

pub loop-leg-preserved : goal.loop-leg-preserved
loop-leg-preserved c =
    let e = c.in-Some.ensures in
    let pushed = c.push_reserved.ensures in
    arc_step c.args.hierarchy.now c.requires.kept _ _ _ c.loop-leg.invariant c.pop.new.self c.in-Some.leg e.items e.capacity
    c.push_reserved.new.self
    c.in-None.is pushed.items pushed.len pushed.capacity

pub returns : goal.returns
returns c =
    let e = c.in_default.ensures in
    unpacking_ends c.args.hierarchy.now _ c.loop-leg.pending c.loop-leg.arcs c.loop-leg.invariant e.cases.0
