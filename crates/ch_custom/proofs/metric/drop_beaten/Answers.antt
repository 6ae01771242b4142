-- The beaten legs of all pairs are taken out.
use Rattle.std.proofs.Common.{arith}
use Rattle.ch_custom.specs.LegPairs.{unbeaten_pair}
use Rattle.ch_custom.proofs.theory.RowLoops.{all_changed}
use Rattle.ch_custom.proofs.metric.drop_beaten.Goals as goal

pub returns : goal.returns
returns c =
    let a = c.loop-place.invariant in
    let past = c.loop-place-test.false in
    all_changed unbeaten_pair c.args.row.now c.loop-place.row a.0
    (λ k d lt. a.1 k d (omega arith) lt)
