-- What is written on the lines are the flows that were found.
use Rattle.std.proofs.Common.{◌≡◌, ap, ◌∙◌}
use Rattle.ch_hierarchy.specs.Hierarchy.{LevelsAndLegs}
use Rattle.ch_engine.specs.Held.{Held}
use Rattle.ch_engine.specs.Lines.{Lines}
use Rattle.ch_engine.proofs.FlowsWritten.{found_written}
use Rattle.ch_engine.proofs.engine.Engine.write_flows.Goals as goal

pub returns-clause-written : goal.returns-clause-written
returns-clause-written c =
    let held = c.args.self.now in
    let first : c.deref.result.now ≡ (held.hierarchy, held.lines) =
    c.deref.ensures ∙ ap (λ (h : Held). (h.hierarchy, h.lines)) c.self.view_is in
    let hierarchy : c.hierarchy-hierarchy.result.now ≡ held.hierarchy =
    c.hierarchy-hierarchy.ensures.same ∙ ap (λ (n : LevelsAndLegs × Lines). n.0) first in
    let network : c.deref-2.result.now ≡ (held.hierarchy, held.lines) =
    c.deref-2.ensures ∙ ap (λ (h : Held). (h.hierarchy, h.lines)) c.self.view_is in
    found_written held c.deref-2.result.now c.hierarchy-hierarchy.result.now c.in-Ok.plan c.flows-found.result
    c.args.sources.now c.args.targets.now c.args.demands.now c.args.out.now c.put_found.new.out c.put_found.result network hierarchy
    c.put_found.ensures c.flows-found.ensures.flows
    c.flows-found.ensures.refused
