-- The legs of the rest are those of one more part.
use Rattle.std.proofs.Common.{sym, subst, ◌∙◌}
use Rattle.ch_custom.specs.Parts.{AreOfParts}
use Rattle.ch_custom.proofs.theory.Parts.{parts_pushed}
use Rattle.ch_custom.proofs.division.Division.lowered.Goals as goal

pub lowered_rest-requires-clause-metrics : goal.lowered_rest-requires-clause-metrics
lowered_rest-requires-clause-metrics g c =
    subst (AreOfParts c.args.self.now.graph.now c.args.self.now.order.now c.args.self.now.rows.now c.args.self.now.parts.now)
    (sym c.as_slice.ensures.value) c.in_ok-metrics.ensures.metrics

pub gathered-requires-clause-metrics : goal.gathered-requires-clause-metrics
gathered-requires-clause-metrics g c =
    parts_pushed c.args.self.now.graph.now c.args.self.now.order.now c.args.self.now.rows.now c.args.self.now.parts.now
    c.in_ok-metrics.metrics.items c.as_slice-2.result.now c.in_ok-rest.rest c.args.self.now.rest c.in_ok-metrics.ensures.metrics
    c.in_ok-rest.ensures c.in_ok-metrics.ensures.count (c.as_slice-2.ensures.value ∙ c.in_ok-push.ensures.items)
