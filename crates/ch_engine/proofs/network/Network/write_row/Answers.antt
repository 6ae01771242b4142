-- One more cell of the row has its weight and its sum, and all else is as before.
use Rattle.std.proofs.Common.{◌+◌, ◌<◌, length, slice_index, ◌∙◌, arith}
use Rattle.std.proofs.lemmas.List.{get_or-set_other, length-set}
use Rattle.ch_engine.specs.Held.{only}
use Rattle.ch_engine.specs.RouteSums.{IsPairSum}
use Rattle.ch_engine.proofs.NearRows.{set_stays}
use Rattle.ch_engine.proofs.TableSums.{row_ends_at, row_more}
use Rattle.ch_engine.proofs.network.Network.write_row.Goals as goal

pub write_pair-requires : goal.write_pair-requires
write_pair-requires c =
    let v = c.loop-c.invariant in
    let low = c.loop-c-test.true in
    (omega (arith, v.weighed, c.requires.fits.0, low), omega (arith, v.long, c.requires.fits.1, low))

pub loop-c-preserved : goal.loop-c-preserved
loop-c-preserved c =
    let l = c.loop-c in
    let v = l.invariant in
    let network = c.args.self.now in
    let held = only network.0 network.1 in
    let values = c.args.table.now.kept.now.values.items in
    let s = c.args.start.source in
    let targets = c.args.table.now.targets.now in
    let first = c.args.start.first in
    let at = first + l.c in
    let low = c.loop-c-test.true in
    let weight = c.in-Ok.weight in
    let sum = c.in-Ok.sum in
    let weighs : at < length l.weights = omega (arith, v.weighed, c.requires.fits.0, low) in
    let inside : at < length l.sums = omega (arith, v.long, c.requires.fits.1, low) in
    let cell : IsPairSum held values s (slice_index targets l.c) weight sum = c.in-Ok.ensures.cell in
    rw c.write_pair.ensures.weights (rw c.write_pair.ensures.sums (record {
      scratch = c.cell_sum.ensures.scratch ∙ v.scratch;
      weighed = length-set l.weights at weight ∙ v.weighed;
      long = length-set l.sums at sum ∙ v.long;
      cells = row_more held values s targets first l.weights l.sums l.c weight sum v.cells weighs inside cell;
      before = λ k less. (
        get_or-set_other l.weights at k weight 0 (λ same. omega (arith, same, less)) ∙ (v.before k less).0,
        get_or-set_other l.sums at k sum 0 (λ same. omega (arith, same, less)) ∙ (v.before k less).1,
      );
      behind = (
        λ k from. set_stays c.args.weights.now l.weights at weight v.behind.0 k (omega (arith, from)),
        λ k from. set_stays c.args.sums.now l.sums at sum v.behind.1 k (omega (arith, from)),
      );
    }))

pub returns-in-Err-clause-end : goal.returns-in-Err-clause-end
returns-in-Err-clause-end c =
    let network = c.args.self.now in
    row_ends_at (only network.0 network.1) c.args.table.now.kept.now.values.items c.args.start.source c.args.table.now.targets.now
    c.loop-c.c c.in-Err.end
    c.loop-c-test.true c.in-Err.ensures.refused
