-- One more leg has its place.
use Rattle.std.proofs.Common.{None, get_or}
use Rattle.ch_query.specs.declared.routes.unpacking.PendingLeg.{PendingLeg as AnyLeg}
use Rattle.std.proofs.lemmas.List.{get_or_default}
use Rattle.ch_flows.proofs.RouteLegs.{way_next}
use Rattle.ch_flows.proofs.pairs.push_places.Goals as goal

pub leg_place-requires-clause-leg : goal.leg_place-requires-clause-leg
leg_place-requires-clause-leg c =
    let legs = c.args.legs.now in
    let none : AnyLeg = record { from = 0; to = 0; cost = record { weight = 0; arcs = 0 }; middle = None } in
    c.requires.legs (get_or legs c.loop-j.j none)
    (c.loop-j.j, c.loop-j-test.true, get_or_default legs c.loop-j.j (get_or legs c.loop-j.j none) none c.loop-j-test.true)

pub loop-j-preserved : goal.loop-j-preserved
loop-j-preserved c =
    let legs = c.args.legs.now in
    let none : AnyLeg = record { from = 0; to = 0; cost = record { weight = 0; arcs = 0 }; middle = None } in
    let leg : AnyLeg = get_or legs c.loop-j.j none in
    way_next c.args.hierarchy.now c.args.layout.now.links.items c.loop-j.places.items c.push.new.self.items legs c.loop-j.j
    c.leg_place.result
    leg c.loop-j-test.true (get_or_default legs c.loop-j.j none leg c.loop-j-test.true) c.leg_place.ensures
    (c.in_ok-push.ensures {u = tt}).items c.loop-j.invariant
