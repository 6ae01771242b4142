-- One more node is listed with its cost and its parent.
use Rattle.std.proofs.Common.{refl, sym, ◌∙◌}
use Rattle.ch_query.proofs.routing.SearchTrees.{known_more, known_skip, no_cost_of}
use Rattle.ch_query.proofs.sides.search.Search.list_known.Goals as goal

pub loop-i-preserved : goal.loop-i-preserved
loop-i-preserved c = known_more c.args.hierarchy.now c.requires.underway.1.levelled c.args.self.now c.args.ranks.now c.loop-i.i _
    c.loop-i-test.true
    refl c.loop-i.tree.items c.loop-i.invariant c.push.new.self.items (record {
      node = c.node_at-node.result;
      cost = c.in-Some.cost;
      parent = c.parent-parent.result;
    }) c.in_ok-push.ensures.items c.node_at-node.ensures.node c.node_at-node.ensures.rank c.in-Some.ensures c.parent-parent.ensures

pub loop-i-preserved-in_default : goal.loop-i-preserved-in_default
loop-i-preserved-in_default c = known_skip c.args.hierarchy.now c.requires.underway.1.levelled c.args.self.now c.args.ranks.now c.loop-i.i _
    c.loop-i-test.true refl c.loop-i.tree.items c.loop-i.invariant
    (sym c.get.ensures ∙ no_cost_of c.get.result c.in_default.not-Some)
