-- The new engine has the network of the topology with these weights.
use Rattle.std.proofs.Common.{rules, ◌≡◌, refl, sym, subst}
use Rattle.ch_engine.specs.Held.{Held, KeepsNothing}
use Rattle.ch_engine.specs.Topologies.{EndsAndPairs, IsOpenedWith}
use Rattle.ch_engine.proofs.engine.Engine.customized.Goals as goal

pub returns-clause-value : goal.returns-clause-value
returns-clause-value c =
    let network = c.in_ok-network.network in
    let weights = c.args.weights.now in
    let same : c.deref.result.now ≡ c.args.topology.now = search rules in
    let is : IsOpenedWith c.args.topology.now weights network.0 network.1 =
    subst (λ (t : EndsAndPairs). IsOpenedWith t weights network.0 network.1) same c.in_ok-network.ensures.value in
    subst (λ (held : Held). KeepsNothing held × IsOpenedWith c.args.topology.now weights held.hierarchy held.lines)
    (sym c.in_ok-of.ensures) ((refl, refl), is)
