-- The route by the engine's hierarchy is the one that is asked for, and each of its arcs joins two nodes.
use Rattle.std.proofs.Common.{rules, ◌≡◌, sym, subst}
use Rattle.std.specs.Prelude.{All, IfOk, MatchOption, ⊤}
use Rattle.ch_graph.specs.Graph.{HasEnds}
use Rattle.ch_graph.proofs.StableRows.{if_ok}
use Rattle.ch_hierarchy.specs.Hierarchy.{LevelsAndLegs, nodes_of}
use Rattle.ch_query.specs.Routes.{IsRouteBy}
use Rattle.ch_engine.specs.Lines.{IsOfSome}
use Rattle.ch_engine.specs.Routes.{IsFound}
use Rattle.ch_engine.proofs.RouteLines.{route_ends}
use Rattle.ch_engine.proofs.Ways.{found_if}
use Rattle.ch_engine.proofs.engine.Engine.find_route.Goals as goal

pub returns-clause-route : goal.returns-clause-route
returns-clause-route c =
    let H = c.hierarchy-hierarchy.result.now in
    let same : H ≡ c.args.self.now.hierarchy = search rules in
    subst (λ (G : LevelsAndLegs). IfOk c.route_by.result (IsFound G c.args.source c.args.target)) same
    (found_if H c.args.source c.args.target c.route_by.result c.route_by.ensures.route c.route_by.ensures.walk c.route_by.ensures.few)

pub returns-clause-ends : goal.returns-clause-ends
returns-clause-ends c =
    let H = c.hierarchy-hierarchy.result.now in
    let v = c.deref.result.now in
    let same : H ≡ c.args.self.now.hierarchy = search rules in
    let of : IsOfSome H v.1 = subst (λ (G : LevelsAndLegs). IsOfSome G v.1) (sym c.hierarchy-hierarchy.ensures.same)
    c.hierarchy-hierarchy.ensures.lines in
    subst (λ (G : LevelsAndLegs).
    IfOk c.route_by.result (λ answer. MatchOption answer ⊤ (λ route. All (HasEnds (nodes_of G)) route.arcs))) same
    (if_ok (IsRouteBy H c.args.source c.args.target)
    (λ answer. MatchOption answer ⊤ (λ route. All (HasEnds (nodes_of H)) route.arcs)) c.route_by.result
    (route_ends H v.1 of c.args.source c.args.target) c.route_by.ensures.walk)
