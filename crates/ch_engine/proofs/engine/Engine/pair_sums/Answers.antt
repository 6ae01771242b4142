-- A sum that was not found ends its row.
use Rattle.std.proofs.Common.{subst}
use Rattle.ch_engine.specs.Held.{Held}
use Rattle.ch_engine.specs.NearSums.{IsNearSumEnd, pair_at}
use Rattle.ch_engine.proofs.NearSums.{row_ends_at}
use Rattle.ch_engine.proofs.engine.Engine.pair_sums.Goals as goal

pub returns-in-Err-clause-refused : goal.returns-in-Err-clause-refused
returns-in-Err-clause-refused c =
    let l = c.loop-j in
    let row = c.args.row.now in
    let end = c.in-Err.end in
    row_ends_at c.args.self.now c.args.source row l.j end c.loop-j-test.true
    (subst (λ (h : Held). IsNearSumEnd h c.args.source (pair_at row l.j).1 end) l.invariant.same c.in-Err.ensures.refused)
