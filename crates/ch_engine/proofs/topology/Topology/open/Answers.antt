-- A fault is the first of the graph's bytes, or one of the order, and without one the topology is that of the graph.
use Rattle.std.proofs.Common.{◌≡◌, inr, refl, sym, subst}
use Rattle.ch_engine.specs.Topologies.{EndsAndPairs, HasEndsOf, IsInOrder}
use Rattle.ch_engine.proofs.topology.Topology.open.Goals as goal

pub returns-in-Err-clause-error : goal.returns-in-Err-clause-error
returns-in-Err-clause-error c =
    let graph = c.in-Ok.graph in
    inr (graph, (c.in-Ok.ensures.value graph).0 refl, c.in-Err.ensures.error)

pub returns-clause-value : goal.returns-clause-value
returns-clause-value c =
    let graph = c.in-Ok.graph in
    let from = c.in-Ok-of in
    let same : c.in_ok-of.field-0 ≡ from.roads = c.in_ok-of.ensures in (
      graph,
      (c.in-Ok.ensures.value graph).0 refl,
      subst (λ (t : EndsAndPairs). HasEndsOf t graph) (sym same) from.ensures.ends,
      subst (IsInOrder c.args.order.now) (sym same) from.ensures.order,
    )
