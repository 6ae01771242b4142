-- The tree of the topology fits.
use Rattle.std.proofs.Common.{sym, subst}
use Rattle.std.proofs.lemmas.Result.{IfOk-weaker}
use Rattle.ch_custom.specs.Topologies.{legs_after}
use Rattle.ch_custom.specs.Customizing.{AreClosed}
use Rattle.ch_tree.proofs.parents.tree_for.Goals as goal

pub tree_of-requires : goal.tree_of-requires
tree_of-requires c =
    record {
      closed = subst (λ n. AreClosed n c.args.topology.now.order c.args.topology.now.pairs)
          (sym c.requires.nodes) c.requires.topology.closed;
    }

pub returns : goal.returns
returns c = IfOk-weaker c.tree_of.result _ _
    (λ parents fits. fits c.args.graph.now c.args.hierarchy.now
    (legs_after c.args.graph.now c.args.topology.now.order) c.nodes-2.ensures.limits c.nodes.ensures.levelled
    c.requires.hierarchy c.requires.topology c.requires.nodes) c.tree_of.ensures.fits
