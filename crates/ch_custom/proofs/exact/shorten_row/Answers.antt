-- The row of the next node can be shortened, and then its legs are exact.
use Rattle.std.proofs.Common.{length, sym, subst}
use Rattle.std.specs.Prelude.{slice_index}
use Rattle.ch_custom.specs.Exact.{AreShortenedOver, CanBeShortened}
use Rattle.ch_custom.proofs.theory.Exact.{place_below, can_be, short_row, exact_row}
use Rattle.ch_custom.proofs.exact.shorten_row.Goals as goal

pub shorten_over_all-requires : goal.shorten_over_all-requires
shorten_over_all-requires c = record {
  ready = subst (CanBeShortened c.args.graph.now (slice_index c.args.order.now c.args.place) c.args.metric.now) (sym c.requires.row)
      (can_be c.args.graph.now c.args.order.now c.args._rows.now c.nodes-nodes.ensures.limits c.requires.ready c.requires.legs
      c.args.place (place_below c.args.graph.now c.args.order.now c.args._rows.now c.nodes-nodes.ensures.limits c.requires.ready
      c.args.place c.requires.place) c.args.metric.now c.requires.metric);
}

pub returns-clause-row : goal.returns-clause-row
returns-clause-row c =
    short_row c.args.graph.now c.args.order.now c.args._rows.now c.nodes-nodes.ensures.limits c.requires.ready c.requires.legs
    c.args.place (place_below c.args.graph.now c.args.order.now c.args._rows.now c.nodes-nodes.ensures.limits c.requires.ready c.args.place
    c.requires.place) c.args.metric.now c.requires.metric c.shorten_over_all.new.row
    (subst (λ z. AreShortenedOver c.args.graph.now (slice_index c.args.order.now c.args.place) c.args.metric.now (length z) z
    c.shorten_over_all.new.row) c.requires.row c.shorten_over_all.ensures)

pub returns-clause-exact : goal.returns-clause-exact
returns-clause-exact c =
    exact_row c.args.graph.now c.args.order.now c.args._rows.now c.nodes-nodes.ensures.limits c.requires.ready c.requires.legs
    c.args.place (place_below c.args.graph.now c.args.order.now c.args._rows.now c.nodes-nodes.ensures.limits c.requires.ready c.args.place
    c.requires.place) c.args.metric.now c.requires.metric c.shorten_over_all.new.row
    (subst (λ z. AreShortenedOver c.args.graph.now (slice_index c.args.order.now c.args.place) c.args.metric.now (length z) z
    c.shorten_over_all.new.row) c.requires.row c.shorten_over_all.ensures)
