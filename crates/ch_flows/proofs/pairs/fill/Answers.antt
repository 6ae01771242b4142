-- The pairs before one whose demand is too much are counted.
use Rattle.std.proofs.Common.{refl}
use Rattle.ch_flows.proofs.pairs.fill.Goals as goal

pub returns-in-Err-clause-refused : goal.returns-in-Err-clause-refused
returns-in-Err-clause-refused c =
    let args = c.args in
    let inv = c.loop-i.invariant in
    (c.in-Err.ensures {u = tt}).refused args.hierarchy.now args.plan.now args.sources.now args.targets.now args.demands.now c.loop-i.i
    c.loop-i.missed c.requires.plan inv.long c.loop-i-test.true ((c.in-Ok.ensures {u = tt}).way, refl) inv.counted
