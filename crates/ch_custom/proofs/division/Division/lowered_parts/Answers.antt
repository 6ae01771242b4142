-- One more part has its number, and the values are those of the parts.
use Rattle.std.proofs.Common.{length, get_or, ap, ◌∙◌, arith}
use Rattle.std.proofs.lemmas.Result.{IfOk-weaker}
use Rattle.std.proofs.lemmas.Slice.Zip.{AllZip-long}
use Rattle.ch_custom.specs.Parts.{AreOfPart}
use Rattle.ch_custom.proofs.theory.Parts.{by_number, numbers_more}
use Rattle.ch_custom.proofs.division.Division.lowered_parts.Goals as goal

pub loop-part-init : goal.loop-part-init
loop-part-init g c =
    let none = ap length c.in_ok-numbers.ensures.items in
    (none, omega arith, λ k d lt. absurd (omega arith))

pub loop-part-preserved : goal.loop-part-preserved
loop-part-preserved g c =
    let lt = c.loop-part-test.true in
    let more = numbers_more c.loop-part.numbers.items c.push.new.self.items c.loop-part.part c.loop-part.invariant.0
    c.loop-part.invariant.2 c.in_ok-push.ensures.items in
    (more.0, omega arith, more.1)

pub run_list-requires-clause-takes : goal.run_list-requires-clause-takes
run_list-requires-clause-takes g c κs within k d lt =
    let i = c.loop-part.invariant in
    let many = i.0 in
    let le = i.1 in
    let size = ap length c.as_slice.ensures.value in
    let is = ap (λ z. get_or z k d) c.as_slice.ensures.value ∙ i.2 k d (omega arith) in
    (omega arith, c.requires.division)

pub returns-clause-count : goal.returns-clause-count
returns-clause-count g c =
    let i = c.loop-part.invariant in
    let past = c.loop-part-test.false in
    let many = i.0 in
    let le = i.1 in
    let size = ap length c.as_slice.ensures.value in
    IfOk-weaker c.run_list.result _ _ (λ metrics z.
    let all = AllZip-long (AreOfPart c.args.self.now.graph.now c.args.self.now.order.now c.args.self.now.rows.now c.args.self.now.parts.now)
    c.as_slice.result.now metrics.items z in
    omega arith) c.run_list.ensures

pub returns-clause-metrics : goal.returns-clause-metrics
returns-clause-metrics g c =
    let i = c.loop-part.invariant in
    let size = ap length c.as_slice.ensures.value in
    IfOk-weaker c.run_list.result _ _ (λ metrics z.
    by_number (AreOfPart c.args.self.now.graph.now c.args.self.now.order.now c.args.self.now.rows.now c.args.self.now.parts.now)
    c.as_slice.result.now metrics.items
    (λ k d lt. ap (λ z. get_or z k d) c.as_slice.ensures.value ∙ i.2 k d (omega arith)) z) c.run_list.ensures
