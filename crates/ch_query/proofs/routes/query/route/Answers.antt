-- The only path of least weight is the route, and without a walk there is none.
use Rattle.std.proofs.Common.{subst}
use Rattle.ch_query.specs.Ways.{IsFirstTry}
use Rattle.ch_query.specs.declared.routes.unique.FirstTry.{FirstTry}
use Rattle.ch_query.proofs.routing.RouteAnswers.{never_walks, found_walks, found_few, way_route}
use Rattle.ch_query.proofs.routes.query.route.Goals as goal

pub returns-in-NoWalk-clause-walk : goal.returns-in-NoWalk-clause-walk
returns-in-NoWalk-clause-walk c =
    let H = c.args.hierarchy.now in
    let never = subst (λ (first : FirstTry). IsFirstTry H c.args.start c.args.end first c.first_try.new.legs.items) c.in-NoWalk.is
    (c.in_ok-first_try.ensures {u = tt}).legs in
    never_walks H c.args.start c.args.end never.0

pub returns-in-Unique-clause-walk : goal.returns-in-Unique-clause-walk
returns-in-Unique-clause-walk c =
    let H = c.args.hierarchy.now in
    let legs = c.first_try.new.legs.items in
    let way = subst (λ (first : FirstTry). IsFirstTry H c.args.start c.args.end first legs) c.in-Unique.is
    (c.in_ok-first_try.ensures {u = tt}).legs in
    found_walks H c.args.start c.args.end c.route_of.result
    (way_route H c.args.start c.args.end c.in-Unique.weight way.0 legs way.1 way.2 c.route_of.result c.route_of.ensures)

pub returns-in-Unique-clause-few : goal.returns-in-Unique-clause-few
returns-in-Unique-clause-few c =
    let H = c.args.hierarchy.now in
    let legs = c.first_try.new.legs.items in
    let way = subst (λ (first : FirstTry). IsFirstTry H c.args.start c.args.end first legs) c.in-Unique.is
    (c.in_ok-first_try.ensures {u = tt}).legs in
    found_few H c.args.start c.args.end c.requires.kept c.requires.end c.route_of.result
    (way_route H c.args.start c.args.end c.in-Unique.weight way.0 legs way.1 way.2 c.route_of.result c.route_of.ensures)
