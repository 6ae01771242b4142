-- Trees that are found change nothing of what is written.
use Rattle.std.proofs.Common.{subst}
use Rattle.ch_engine.specs.Held.{Held}
use Rattle.ch_engine.specs.RouteSums.{ArePairSumsWritten}
use Rattle.ch_engine.proofs.engine.Engine.write_pair_sums.Goals as goal

pub returns-clause-written : goal.returns-clause-written
returns-clause-written c =
    let summed = c.write_pairs_by-summed in
    subst (λ (h : Held). ArePairSumsWritten h c.args.sources.now c.args.targets.now c.args.values.now summed.new.weights summed.new.sums
    summed.result) c.trees_for-trees.ensures.same summed.ensures.written
