-- The legs of one more node are exact, from the last back to the first.
use Rattle.std.proofs.Common.{◌≡◌, ◌-◌, length, subst, arith}
use Rattle.ch_custom.specs.Exact.{AreExactFrom}
use Rattle.ch_custom.proofs.exact.make_exact.Goals as goal

pub loop-step-init : goal.loop-step-init
loop-step-init c =
    let e : length c.args.order.now ≡ length c.args.order.now - 0 = omega arith in
    subst (λ z. AreExactFrom c.args.graph.now c.args.order.now c.args.rows.now z c.args.metric.now) e c.requires.metric
