-- One more entry lowers its place to its sum with the weight, if that is less.
use Rattle.std.proofs.Common.{◌+◌, ◌<◌, length, get_or, arith}
use Rattle.std.proofs.lemmas.List.{take_more}
use Rattle.ch_query.proofs.by_weight.LoweredWords.{lowered_one}
use Rattle.ch_rows.proofs.Summed.{bucket_none, bucket_more}
use Rattle.ch_rows.proofs.sums.lower.Goals as goal

pub loop-place-init : goal.loop-place-init
loop-place-init c = bucket_none c.args.weight c.args.row.now

pub loop-place-preserved : goal.loop-place-preserved
loop-place-preserved c =
    let a = c.args in
    let i = c.loop-place.place-index in
    let entry = get_or a.bucket.now i (0, 0) in
    let among = (c.requires.bucket i (0, 0) c.loop-place-test.true).0 in
    let size = c.loop-place.invariant.size in
    let there : entry.0 < length c.loop-place.row = omega arith in
    rw c.min.ensures (bucket_more a.weight i a.bucket.now entry (take_more a.bucket.now i (0, 0) c.loop-place-test.true) a.row.now
    c.loop-place.row _ c.loop-place.invariant
    (lowered_one entry.0 (a.weight + entry.1) c.loop-place.row there))
