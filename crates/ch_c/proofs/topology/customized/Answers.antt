-- The box has the engine of the topology with these weights.
use Rattle.std.proofs.Common.{rules, ◌≡◌, sym, subst}
use Rattle.ch_engine.specs.Held.{Held, KeepsNothing}
use Rattle.ch_engine.specs.Topologies.{IsOpenedWith}
use Rattle.ch_c.proofs.topology.customized.Goals as goal

pub returns-in-Ok-clause-value : goal.returns-in-Ok-clause-value
returns-in-Ok-clause-value c =
    let held : Held = c.in_ok-engine.engine in
    let same : c.in-Ok.engine.value ≡ held = search rules in
    subst (λ (h : Held). KeepsNothing h × IsOpenedWith c.args.topology.now c.args.weights.now h.hierarchy h.lines) (sym same)
    c.in_ok-engine.ensures.value
