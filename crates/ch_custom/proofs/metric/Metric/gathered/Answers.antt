-- One more row is gathered, and in the end all are.
use Rattle.std.proofs.Common.{[], ◌∙◌, sym, ap, subst, arith}
use Rattle.std.proofs.lemmas.List.{get_or_default}
use Rattle.ch_graph.specs.Rows.{AreOrdered}
use Rattle.ch_graph.proofs.RowsBetween.{length-rows_between}
use Rattle.ch_custom.specs.LegPairs.{pairs_row}
use Rattle.ch_custom.proofs.theory.Parts.{gathered_more}
use Rattle.ch_custom.proofs.metric.Metric.gathered.Goals as goal

pub loop-node-preserved : goal.loop-node-preserved
loop-node-preserved c =
    gathered_more c.args.parts.now c.args.metrics.now c.loop-node.node c.len.result c.loop-node.starts.items
    c.push-in-loop-node.new.self.items
    c.loop-node.pairs.items c.extend_from_slice.new.self.items c.row.result.now c.requires.few c.loop-node-test.true c.loop-node.invariant
    (c.row.ensures ∙ ap (λ z. pairs_row z c.loop-node.node) (c.index-metrics-parts.is
    ∙ get_or_default c.args.metrics.now _ _ [] (c.requires.parts c.loop-node.node c.loop-node-test.true)))
    c.in_ok-extend_from_slice.ensures.items (c.len.ensures ∙ c.extend_from_slice.new.self.ok.0) c.in_ok-push-2.ensures.items

pub invariant_of-result : goal.invariant_of-result
invariant_of-result c = subst (AreOrdered c.loop-node.starts.items) (sym c.loop-node.pairs.ok.0) c.loop-node.invariant.ordered

pub returns : goal.returns
returns c =
    let i = c.loop-node.invariant in
    let past = c.loop-node-test.false in
    let within = i.within in
    let count = i.count in
    let size = length-rows_between c.loop-node.starts.items c.loop-node.pairs.items in
    record { size = omega arith; each = λ v lt. i.each v (omega arith) }
