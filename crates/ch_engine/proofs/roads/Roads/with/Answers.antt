-- The topology of the graph serves each graph whose arcs have the same ends, and its tree each hierarchy that is customized in it.
use Rattle.std.proofs.Common.{rules, ◌≡◌, length, sym, ap, subst, ◌∙◌}
use Rattle.std.proofs.lemmas.List.{length-map}
use Rattle.std.specs.Arc.{arc_value}
use Rattle.std.specs.Prelude.{Vec, ℕ}
use Rattle.std.specs.declared.alloc.Global.{Global}
use Rattle.ch_custom.specs.Customizing.{AreClosed}
use Rattle.ch_tree.specs.Parents.{IsTreeOf}
use Rattle.ch_engine.specs.Topologies.{EndsAndPairs, HasEndsOf}
use Rattle.ch_engine.proofs.SameEnds.{froms, tos, serves_all}
use Rattle.ch_engine.proofs.roads.Roads.with.Goals as goal

pub tree_of-requires : goal.tree_of-requires
tree_of-requires c = record {
  closed = subst (λ n. AreClosed n c.args.topology.order c.args.topology.pairs) (sym c.requires.nodes) c.requires.topology.closed;
}

pub invariant_of-result : goal.invariant_of-result
invariant_of-result c =
    let g = c.args.graph.now in
    let t : EndsAndPairs = record {
      nodes = c.nodes.result;
      tails = c.in_ok-tails.tails.items;
      heads = c.in_ok-heads.heads.items;
      order = c.args.topology.order;
      pairs = c.args.topology.pairs;
    } in
    let tails : froms g.arcs ≡ t.tails = sym (c.in_ok-tails.ensures ∙ ap froms c.arcs.ensures.arcs) in
    let heads : tos g.arcs ≡ t.heads = sym (c.in_ok-heads.ensures ∙ ap tos c.arcs-2.ensures.arcs) in
    let ends : HasEndsOf t g = record { nodes = sym c.nodes.ensures.nodes; tails = tails; heads = heads } in
    let shared : arc_value c.in_ok-tree.tree ≡ c.in_ok-parents.parents = search rules in (
      record {
        size = c.requires.nodes ∙ sym c.nodes.ensures.nodes;
        ends = sym (ap length heads) ∙ length-map g.arcs (λ a. a.to) ∙ sym (length-map g.arcs (λ a. a.from)) ∙ ap length tails;
        topology = λ f. serves_all t g ends c.requires.topology f;
      },
      subst (λ (list : Vec ℕ Global). IsTreeOf c.args.topology list.items) (sym shared) c.in_ok-parents.ensures.fits,
    )
