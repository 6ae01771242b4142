-- The two costs of a node that both searches reach have a sum without overflow.
use Rattle.std.proofs.Common.{sym, arith}
use Rattle.ch_query.proofs.two_sides.MeetingSteps.{known_arcs, known_at}
use Rattle.ch_query.proofs.sides.meeting.met.Goals as goal

pub plus-requires : goal.plus-requires
plus-requires c =
    let known = known_at c.args.hierarchy.now c.args.there.now c.args.rank c.in-Some.known
    (c.args.node, c.requires.node, c.requires.rank) (sym c.in-Some.ensures) in
    let there = known_arcs c.args.hierarchy.now _ c.args.there.now c.args.node c.in-Some.known c.requires.there.1 known in
    let light = there.0 in
    let few = there.1 in
    let own = c.requires.cost in
    let own_light = own.0 in
    let own_few = own.1 in
    record { weights = omega arith; arcs = omega arith }
