-- All nodes are put into the queue before the first one is contracted.
use Rattle.std.proofs.Common.{◌<◌, ◌∙◌, ap, sym, subst, []}
use Rattle.std.specs.Prelude.{All}
use Rattle.ch_contract.proofs.theory.GivenNodes.{other_nodes}
use Rattle.ch_order.proofs.QuickSteps.{any_at_start, under_way_rekeyed}
use Rattle.ch_order.proofs.construction.quick.begin.Goals as goal

pub queue-requires-clause-nodes : goal.queue-requires-clause-nodes
queue-requires-clause-nodes g c =
    subst (λ n. All (λ x. x < n) c.args.order.now) (sym c.in_ok-opened.ensures.nodes)
    (other_nodes [] c.args.order.now c.args.graph.now.nodes c.requires.order)

pub take_given-requires-clause-begun : goal.take_given-requires-clause-begun
take_given-requires-clause-begun g c κs within =
    let begun = c.in_ok-opened.ensures in
    let queued = c.queue.ensures in
    let start = any_at_start c.args.graph.now c.args.hops.number c.args.order.now _ _ c.args.hops.in_range.0 c.requires.order begun.after
    queued.queued in (
      record {
        sizes = queued.sizes;
        nodes = queued.nodes ∙ begun.nodes;
        after = start.0;
        ready = queued.ready c.args.hops.number begun.ready;
      },
      ap (λ p. p.contracted) queued.queued.rest ∙ begun.after.after.contracted ∙ sym start.1,
    )

pub returns : goal.returns
returns g c =
    let open_ = c.in_ok-open.ensures in
    let e = c.estimate_all.ensures in
    under_way_rekeyed _ _ _ _ open_ _ e.sizes e.nodes e.rekeyed (e.ready c.args.hops.number open_.ready)
