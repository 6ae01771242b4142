-- The graph has the weights at the places of the arcs, and its hierarchy is customized for it. So the topology's tree is one for it.
use Rattle.std.proofs.Common.{rules, ◌≡◌, sym, subst, ap, ◌∙◌}
use Rattle.std.specs.Arc.{arc_value}
use Rattle.std.specs.Prelude.{Vec, ℕ}
use Rattle.std.specs.declared.alloc.Global.{Global}
use Rattle.ch_custom.specs.Customizing.{IsTopology}
use Rattle.ch_custom.specs.Topologies.{IsCustomized, legs_after}
use Rattle.ch_hierarchy.specs.Hierarchy.{LevelsAndLegs}
use Rattle.ch_hierarchy.specs.Kept.{IsKept}
use Rattle.ch_tree.specs.Tree.{IsTree}
use Rattle.ch_engine.specs.Lines.{AreLines, Lines}
use Rattle.ch_engine.specs.Topologies.{EndsAndPairs, IsWeighed}
use Rattle.ch_engine.proofs.roads.Roads.weighed.Goals as goal

pub with_tree-requires : goal.with_tree-requires
with_tree-requires c =
    let g = c.in_ok-graph.graph in
    let H = c.in_ok-hierarchy.hierarchy in
    let inside = c.self.inside in
    let t : EndsAndPairs = record {
      nodes = inside.nodes;
      tails = inside.tails.items;
      heads = inside.heads.items;
      order = inside.topology.order;
      pairs = inside.topology.pairs;
    } in
    let weighed : IsWeighed t c.args.weights.now g = search rules in
    let right = c.self.invariant.0 in
    let topology : IsTopology g t.order t.pairs = right.topology g (record {
      nodes = weighed.0;
      tails = weighed.1.from;
      heads = weighed.1.to;
    }) in
    let size = right.size ∙ sym weighed.0 in
    let tree = c.self.invariant.1 g H (legs_after g t.order) c.nodes-limits.ensures.limits c.nodes-levelled.ensures.levelled
    c.in_ok-hierarchy.ensures.hierarchy topology size in
    let same : c.in_ok-lined.lined.0 ≡ H = c.in_ok-lined.ensures.hierarchy in
    let shared : arc_value c.in_ok-tree.tree ≡ arc_value inside.tree = search rules in
    subst (λ (list : Vec ℕ Global). IsTree c.in_ok-lined.lined.0 list.items) (sym shared)
    (subst (λ (G : LevelsAndLegs). IsTree G (arc_value inside.tree).items) (sym same) tree)

pub returns-clause-value : goal.returns-clause-value
returns-clause-value c =
    let t = c.args.self.now in
    let g = c.in_ok-graph.graph in
    let H = c.in_ok-hierarchy.hierarchy in
    let weighed : IsWeighed t c.args.weights.now g = search rules in
    let customized : IsCustomized g t.order H =
    subst (λ (s : EndsAndPairs). IsCustomized g s.order H) c.self.view_is c.in_ok-hierarchy.ensures.hierarchy in
    let same : c.with_tree.result.0 ≡ H = ap (λ (n : LevelsAndLegs × Lines). n.0) c.with_tree.ensures ∙ c.in_ok-lined.ensures.hierarchy in
    let lines = subst (λ (n : LevelsAndLegs × Lines). AreLines g n.0 n.1) (sym c.with_tree.ensures) c.in_ok-lined.ensures.lines in (
      g,
      weighed,
      c.nodes-limits.ensures.limits,
      subst (IsKept g) (sym same) c.in_ok-hierarchy.ensures.kept,
      subst (IsCustomized g t.order) (sym same) customized,
      lines,
    )
