-- One more new weight is the last one for its key.
use Rattle.std.proofs.Common.{get_or, take}
use Rattle.std.proofs.lemmas.List.{take_more}
use Rattle.ch_run.proofs.NewWeights.{no_weight, one_latest}
use Rattle.ch_run.proofs.weighing.latest_of.Goals as goal

pub loop-new-preserved : goal.loop-new-preserved
loop-new-preserved c =
    let listed = c.args.listed.now in
    let i = c.loop-new.new-index in
    rw (take_more listed i no_weight c.loop-new-test.true)
    (one_latest (take i listed) (get_or listed i no_weight) c.loop-new.found c.insert.new.self c.loop-new.invariant
    (rw c.key_of.ensures at c.in_ok-insert.ensures.updates).0)
