-- The legs of the only path of least weight are those of the route.
use Rattle.std.proofs.Common.{subst}
use Rattle.ch_query.specs.Ways.{IsFirstTry}
use Rattle.ch_query.specs.declared.routes.unique.FirstTry.{FirstTry}
use Rattle.ch_query.proofs.routing.RouteAnswers.{way_found}
use Rattle.ch_query.proofs.routes.way.route_legs.Goals as goal

pub returns-in-Unique-clause-legs : goal.returns-in-Unique-clause-legs
returns-in-Unique-clause-legs c =
    let H = c.args.hierarchy.now in
    let legs = c.first_try.new.legs.items in
    let way = subst (λ (first : FirstTry). IsFirstTry H c.args.start c.args.end first legs) c.in-Unique.is
    (c.in_ok-first_try.ensures {u = tt}).legs in
    way_found H c.requires.kept c.args.start c.args.end way.0 legs way.2
