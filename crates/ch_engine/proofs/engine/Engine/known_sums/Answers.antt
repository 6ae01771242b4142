-- The kept values have their sums for the engine's own hierarchy and lines.
use Rattle.std.proofs.Common.{◌≡◌, ap, subst}
use Rattle.std.specs.Arc.{arc_value}
use Rattle.ch_hierarchy.specs.Hierarchy.{LevelsAndLegs}
use Rattle.ch_engine.specs.Held.{Held}
use Rattle.ch_engine.specs.LegSums.{AreKeptSums}
use Rattle.ch_engine.specs.Lines.{Lines}
use Rattle.ch_engine.proofs.LegSums.{first_of_both}
use Rattle.ch_engine.proofs.engine.Engine.known_sums.Goals as goal

pub returns-in-Some-clause-sums : goal.returns-in-Some-clause-sums
returns-in-Some-clause-sums c =
    let held = c.args.self.now in
    let network = arc_value c.self.inside.network in
    let own : AreKeptSums network.0 network.1 (arc_value c.in-Some.kept) =
    c.in-Some.ensures.sums network.0 network.1 (first_of_both c.self.inside.values _ _ c.self.invariant.4) in
    let same : network ≡ (held.hierarchy, held.lines) = ap (λ (h : Held). (h.hierarchy, h.lines)) c.self.view_is in
    subst (λ (n : LevelsAndLegs × Lines). AreKeptSums n.0 n.1 (arc_value c.in-Some.kept)) same own
