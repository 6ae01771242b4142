-- One more rank of the space lowers the words by its sums with the bucket there.
use Rattle.std.proofs.Common.{[], get_or, length, sym, subst}
use Rattle.std.specs.Prelude.{slice_index_or}
use Rattle.std.proofs.lemmas.List.{take_more}
use Rattle.ch_query.specs.Lowered.{AreLowered}
use Rattle.ch_query.proofs.by_weight.LoweredWords.{space_none, space_more}
use Rattle.ch_query.proofs.weights.lowering.lower_by_space.Goals as goal

pub loop-rank-init : goal.loop-rank-init
loop-rank-init g c = space_none (g.L.Lowering.sums c.args.lowering.now) c.args.buckets.now (g.L.Lowering.words c.args.row.now)

pub lower-requires-clause-bucket : goal.lower-requires-clause-bucket
lower-requires-clause-bucket g c =
    let a = c.args in
    let rank = (get_or a.space.now c.loop-rank.rank-index (0, 0)).0 in
    subst (g.L.Lowering.fits (length (g.L.Lowering.words c.loop-rank.row))) (sym c.row.ensures)
    (subst (λ n. g.L.Lowering.fits n (slice_index_or a.buckets.now rank [])) (sym c.loop-rank.invariant.size) (c.requires.buckets rank))

pub loop-rank-preserved : goal.loop-rank-preserved
loop-rank-preserved g c =
    let a = c.args in
    let i = c.loop-rank.rank-index in
    let entry = get_or a.space.now i (0, 0) in
    let words = g.L.Lowering.words in
    let sums = g.L.Lowering.sums a.lowering.now in
    space_more sums a.buckets.now i a.space.now entry (take_more a.space.now i (0, 0) c.loop-rank-test.true) (words a.row.now)
    (words c.loop-rank.row) (words c.lower.new.row) c.loop-rank.invariant
    (subst (λ l. AreLowered (sums entry.1 l) (words c.loop-rank.row) (words c.lower.new.row)) c.row.ensures c.in_ok-lower.ensures)
