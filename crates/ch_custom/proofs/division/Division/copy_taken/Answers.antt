-- A node of a part has its row there, and each other node in the rest.
use Rattle.std.proofs.Common.{◌≡◌, refl, arith}
use Rattle.std.specs.Prelude.{slice_index}
use Rattle.std.proofs.lemmas.Result.{IfOk-weaker}
use Rattle.ch_custom.proofs.theory.Parts.{part_taken, whole}
use Rattle.ch_custom.proofs.theory.Steps.{nodes}
use Rattle.ch_custom.proofs.theory.StepPairs.{taken_here}
use Rattle.ch_custom.proofs.division.Division.copy_taken.Goals as goal

pub copy_row-requires : goal.copy_row-requires
copy_row-requires c =
    (part_taken _ _ _ c.nodes-nodes.ensures.limits c.requires.division.ready _ _ c.requires.metrics c.args.place _
    c.index-metrics-part.result _ c.requires.place refl c.if-part-metrics.true c.index-metrics-part.is).0

pub returns-then-part-metrics : goal.returns-then-part-metrics
returns-then-part-metrics c =
    IfOk-weaker c.copy_row.result _ _ (λ _ e. (part_taken _ _ _ c.nodes-nodes.ensures.limits c.requires.division.ready _ _
    c.requires.metrics c.args.place _ c.index-metrics-part.result _ c.requires.place refl c.if-part-metrics.true
    c.index-metrics-part.is).1 _ e) c.copy_row.ensures

pub returns-else-part-metrics : goal.returns-else-part-metrics
returns-else-part-metrics c =
    let d = c.requires.division in
    let limits = c.nodes-nodes.ensures.limits in
    let size = d.ready.size in
    let node = (nodes _ _ _ limits d.ready).within c.args.place c.requires.place in
    let le = d.divided.within (slice_index c.args.self.now.order.now c.args.place) (omega arith) in
    let past = c.if-part-metrics.false in
    let count = c.requires.count in
    let same : slice_index c.args.self.now.parts.now (slice_index c.args.self.now.order.now c.args.place) ≡ c.args.self.now.rest =
    omega arith in
    IfOk-weaker c.copy_row-else-part-metrics.result _ _
    (λ _ e. taken_here _ _ _ limits d.ready c.args.own.now c.args.place c.args.place c.requires.place (omega arith)
    (whole _ _ _ d.ready _ _ _ c.requires.own c.args.place c.requires.place same) c.args.metric.now c.requires.metric _ e)
    c.copy_row-else-part-metrics.ensures
