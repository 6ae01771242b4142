-- At the end nothing is held, so the legs have all.
use Rattle.std.proofs.Common.{arith}
use Rattle.ch_flows.proofs.HeldDemands.{nothing_held}
use Rattle.ch_flows.proofs.gathering.hand_on.Goals as goal

pub returns-clause-handed : goal.returns-clause-handed
returns-clause-handed c = λ share.
    let l = c.loop-i in
    let zero = nothing_held share c.args.branches.now l.held (λ k low. l.invariant.none k (omega (arith, c.loop-i-test.false))
    (omega (arith, low, l.invariant.held, c.requires.held))) in
    omega (arith, zero, l.invariant.kept share)
