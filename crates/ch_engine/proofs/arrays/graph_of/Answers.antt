-- Arrays of too many arcs have no size within the limits.
use Rattle.std.proofs.Common.{arith}
use Rattle.ch_engine.proofs.ArcsOfArrays.{too_many}
use Rattle.ch_engine.proofs.arrays.graph_of.Goals as goal

pub returns-then-tails-gt-MOST_ARCS-clause-error :
    goal.returns-then-tails-gt-MOST_ARCS-clause-error
returns-then-tails-gt-MOST_ARCS-clause-error c =
    too_many c.args.nodes c.args.tails.now c.args.heads.now c.args.weights.now (omega (arith, c.if-heads-tails.false))
    (omega (arith, c.if-weights-tails.false)) (omega (arith, c.if-tails-gt-MOST_ARCS.true))
