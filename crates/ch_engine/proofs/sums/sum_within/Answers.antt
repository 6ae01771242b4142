-- One more pair adds its value if it is within the limit, and a sum that is too large only grows.
use Rattle.std.proofs.Common.{◌+◌, arith}
use Rattle.std.proofs.lemmas.List.Sums.{sum_by_more, sum_by-take-le}
use Rattle.ch_engine.specs.Sums.{share_of}
use Rattle.ch_engine.proofs.sums.sum_within.Goals as goal

pub returns-in_default : goal.returns-in_default
returns-in_default c =
    let share = share_of c.args.values.now c.args.limit in
    let row = c.args.row.now in
    let i = c.loop-pair.pair-index in
    let more = sum_by_more share row i (0, 0) c.loop-pair-test.true in
    let most = sum_by-take-le share row (i + 1) in
    omega (arith, c.in_default.ensures {u = tt}, c.share_of-share.ensures, c.loop-pair.invariant, more, most)

pub loop-pair-preserved : goal.loop-pair-preserved
loop-pair-preserved c =
    let share = share_of c.args.values.now c.args.limit in
    let row = c.args.row.now in
    let i = c.loop-pair.pair-index in
    let more = sum_by_more share row i (0, 0) c.loop-pair-test.true in
    let is = (c.in-Some.ensures {u = tt}).1 in
    omega (arith, is, c.share_of-share.ensures, c.loop-pair.invariant, more)
