-- The closed handle opens with the engine of the open topology.
use Rattle.std.proofs.Common.{rules, ◌≡◌, subst}
use Rattle.std.specs.Prelude.{None, Some}
use Rattle.ch_engine.specs.Held.{Held, KeepsNothing}
use Rattle.ch_engine.specs.Topologies.{EndsAndPairs, IsOpenedWith}
use Rattle.ch_c.proofs.Customized.{opened_with}
use Rattle.ch_c.proofs.topology.chtab_customized.Goals as goal

pub returns-in-Ok-clause-customizing : goal.returns-in-Ok-clause-customizing
returns-in-Ok-clause-customizing c =
    let arcs = c.in-Some.arcs.value in
    let held : Held = c.in-Ok.engine.value in
    let weights = c.args.weights.now in
    let opened : c.args.topology.now.topology.arcs ≡ Some arcs = search rules in
    let closed : c.args.handle.now.engine.network ≡ None = search rules in
    let put : c.put-in-Ok.new.self.engine.network ≡ Some held = search rules in
    let given : c.deref.result.now ≡ arcs = search rules in
    let value = subst (λ (t : EndsAndPairs). KeepsNothing held × IsOpenedWith t weights held.hierarchy held.lines) given
    c.in-Ok.ensures.value in
    opened_with c.args.topology.now.topology.arcs weights c.args.handle.now.engine.network c.put-in-Ok.new.self.engine.network
    c.args.fault.now arcs held opened closed put value
