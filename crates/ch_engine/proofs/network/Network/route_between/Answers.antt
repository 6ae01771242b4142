-- The route by the hierarchy is the one that is asked for.
use Rattle.std.proofs.Common.{subst}
use Rattle.std.specs.Prelude.{IfOk}
use Rattle.ch_hierarchy.specs.Hierarchy.{LevelsAndLegs}
use Rattle.ch_engine.specs.Routes.{IsFound}
use Rattle.ch_engine.proofs.Ways.{found_if}
use Rattle.ch_engine.proofs.network.Network.route_between.Goals as goal

pub returns-clause-route : goal.returns-clause-route
returns-clause-route c =
    let H = c.hierarchy.result.now in
    subst (λ (G : LevelsAndLegs). IfOk c.route.result (IsFound G c.args.source c.args.target)) c.hierarchy.ensures.same
    (found_if H c.args.source c.args.target c.route.result c.route.ensures.route c.route.ensures.walk c.route.ensures.few)
