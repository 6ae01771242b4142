-- The new engine has a hierarchy in the order of this one, which is the one by depth if all nodes are ordered afresh.
use Rattle.std.proofs.Common.{rules, ◌≡◌, refl, sym, subst}
use Rattle.ch_hierarchy.specs.Hierarchy.{LevelsAndLegs}
use Rattle.ch_engine.specs.Held.{Held, KeepsNothing}
use Rattle.ch_engine.specs.Opened.{IsOpenedLike}
use Rattle.ch_engine.proofs.BuiltLike.{opened_afresh}
use Rattle.ch_engine.proofs.engine.Engine.open_like.Goals as goal

pub returns-clause-value : goal.returns-clause-value
returns-clause-value c =
    let network = c.in_ok-network.network in
    let graph = c.args.graph.now in
    let H = c.hierarchy.result.now in
    let other : H ≡ c.args.self.now.hierarchy = search rules in
    let is : IsOpenedLike graph c.args.self.now.hierarchy c.args.fresh network.0 network.1 =
    subst (λ (G : LevelsAndLegs). IsOpenedLike graph G c.args.fresh network.0 network.1) other c.in_ok-network.ensures.value in
    subst (λ (held : Held). KeepsNothing held × IsOpenedLike graph c.args.self.now.hierarchy c.args.fresh held.hierarchy
    held.lines) (sym c.in_ok-of.ensures) ((refl, refl), is)

pub returns-clause-afresh : goal.returns-clause-afresh
returns-clause-afresh c = λ all. let held = c.in_ok-of.field-0 in
    opened_afresh c.args.graph.now c.args.self.now.hierarchy c.args.fresh held.hierarchy held.lines all (returns-clause-value c).1
