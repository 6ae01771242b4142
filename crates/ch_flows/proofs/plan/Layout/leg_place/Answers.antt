-- A leg is in the row of its lower end.
use Rattle.std.proofs.Common.{arith}
use Rattle.ch_flows.proofs.RouteLegs.{down_leg, from_node, leg_down, leg_up, to_node, up_leg}
use Rattle.ch_flows.proofs.plan.Layout.leg_place.Goals as goal

pub level-requires : goal.level-requires
level-requires c = from_node c.args.hierarchy.now c.requires.kept.2.levelled c.args.leg c.requires.leg

pub level-requires-2 : goal.level-requires-2
level-requires-2 c = to_node c.args.hierarchy.now c.requires.kept.2.levelled c.args.leg c.requires.leg

pub place-requires-clause-low : goal.place-requires-clause-low
place-requires-clause-low c = from_node c.args.hierarchy.now c.requires.kept.2.levelled c.args.leg c.requires.leg

pub place-requires-clause-has : goal.place-requires-clause-has
place-requires-clause-has c =
    let l = up_leg c.args.hierarchy.now c.requires.kept.2.levelled c.args.leg c.requires.leg
    (omega (arith, c.level.ensures.level, c.level-2.ensures.level, c.if-level.true)) in
    (l.0, l.1, l.2)

pub place-requires-else-level-clause-low : goal.place-requires-else-level-clause-low
place-requires-else-level-clause-low c = to_node c.args.hierarchy.now c.requires.kept.2.levelled c.args.leg c.requires.leg

pub place-requires-else-level-clause-has : goal.place-requires-else-level-clause-has
place-requires-else-level-clause-has c =
    let l = down_leg c.args.hierarchy.now c.requires.kept.2.levelled c.args.leg c.requires.leg
    (omega (arith, c.level.ensures.level, c.level-2.ensures.level, c.if-level.false)) in
    (l.0, l.1, l.2)

pub returns-then-level : goal.returns-then-level
returns-then-level c =
    let l = c.args.self.now in
    leg_up c.args.hierarchy.now c.requires.kept.2.levelled c.args.leg c.requires.leg l.starts.items l.links.items c.requires.laid
    c.place.result
    (omega (arith, c.level.ensures.level, c.level-2.ensures.level, c.if-level.true)) c.place.ensures

pub returns-else-level : goal.returns-else-level
returns-else-level c =
    let l = c.args.self.now in
    leg_down c.args.hierarchy.now c.requires.kept.2.levelled c.args.leg c.requires.leg l.starts.items l.links.items c.requires.laid
    c.place-else-level.result (omega (arith, c.level.ensures.level, c.level-2.ensures.level, c.if-level.false)) c.place-else-level.ensures
