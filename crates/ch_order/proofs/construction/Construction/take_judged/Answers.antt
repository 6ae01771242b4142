-- A contraction with this bound is one with this bound or a lesser one.
use Rattle.std.proofs.Common.{arith}
use Rattle.ch_order.proofs.QuickSteps.{taken_within}
use Rattle.ch_order.proofs.construction.Construction.take_judged.Goals as goal

pub returns : goal.returns
returns c =
    let t = c.in_ok-taken.ensures in
    taken_within c.args.hops.number c.args.hops.number c.args.self c.in_ok-taken.taken c.args.node _ (omega (arith, c.args.hops.in_range.0))
    (omega arith) c.requires.next t.sizes t.taken c.in_ok-taken.taken.room t.taken.ready
