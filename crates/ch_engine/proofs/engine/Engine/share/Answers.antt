-- The second engine has the network, and room and values that belong to it.
use Rattle.std.proofs.Common.{rules, ◌≡◌, sym, subst}
use Rattle.std.specs.Prelude.{MatchOption, ⊤}
use Rattle.std.specs.Arc.{arc_value}
use Rattle.ch_hierarchy.specs.Hierarchy.{LevelsAndLegs, nodes_of}
use Rattle.ch_engine.specs.LegSums.{AreKeptOfLines}
use Rattle.ch_engine.specs.Lines.{Lines}
use Rattle.ch_engine.proofs.engine.Engine.share.Goals as goal

pub invariant_of-result : goal.invariant_of-result
invariant_of-result c =
    let before = arc_value c.self.inside.network in
    let network = arc_value c.in_ok-network.network in
    let values = c.in_ok-values.values in
    let scratch : c.in_ok-scratch.scratch ≡ nodes_of network.0 = search rules in
    let by_tree : MatchOption c.in_ok-by_tree.by_tree ⊤ (λ room. room ≡ nodes_of network.0) = search rules in
    let kept : MatchOption values ⊤ (λ sums. AreKeptOfLines network.0 network.1 (arc_value sums)) =
    subst (λ (n : LevelsAndLegs × Lines). MatchOption values ⊤ (λ sums. AreKeptOfLines n.0 n.1 (arc_value sums)))
    (sym c.in_ok-network.ensures) (c.in_ok-values.ensures.sums before.0 before.1 c.self.invariant.4) in
    (scratch, by_tree, tt, tt, kept, tt, tt, tt, search rules)
