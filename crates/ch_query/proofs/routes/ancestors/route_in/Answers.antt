-- A meet of both sides gives a route with fewer arcs than there are nodes, and without a meet there is no walk.
use Rattle.std.proofs.Common.{◌<◌, length, sym, subst}
use Rattle.std.specs.Prelude.{IfOk, MatchOption, ⊤}
use Rattle.ch_hierarchy.specs.Hierarchy.{nodes_of}
use Rattle.ch_query.specs.Routes.{IsRouteBy}
use Rattle.ch_query.proofs.routing.RouteAnswers.{never_walks, found_walks, found_few}
use Rattle.ch_query.proofs.routes.ancestors.route_in.Goals.{in-Some, in-None}
use Rattle.ch_query.proofs.routes.ancestors.route_in.Goals as goal

pub returns-clause-walk : goal.returns-clause-walk
returns-clause-walk c =
    let H = c.args.hierarchy.now in
    elim c.match-meet_by_ancestors.branch [
      | in-Some w ↦ subst (λ r. IfOk r (IsRouteBy H c.args.start c.args.end)) (sym w.answer-is)
          (found_walks H c.args.start c.args.end w.route_over-answer.result w.route_over-answer.ensures.route)
      | in-None w ↦ subst (λ r. IfOk r (IsRouteBy H c.args.start c.args.end)) (sym w.answer-is)
          (never_walks H c.args.start c.args.end w.in-None.ensures.least)
    ]

pub returns-clause-few : goal.returns-clause-few
returns-clause-few c =
    let H = c.args.hierarchy.now in
    elim c.match-meet_by_ancestors.branch [
      | in-Some w ↦ subst (λ r. IfOk r (λ answer. MatchOption answer ⊤ (λ route. length route.arcs < nodes_of H))) (sym w.answer-is)
          (found_few H c.args.start c.args.end c.requires.kept c.requires.end w.route_over-answer.result
          w.route_over-answer.ensures.route)
      | in-None w ↦ subst (λ r. IfOk r (λ answer. MatchOption answer ⊤ (λ route. length route.arcs < nodes_of H))) (sym w.answer-is) tt
    ]
