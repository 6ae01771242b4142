-- At the end all given nodes had their turn.
use Rattle.std.proofs.Common.{subst, arith}
use Rattle.std.proofs.lemmas.List.{take_all}
use Rattle.ch_order.specs.Quick.{IsBegunWith}
use Rattle.ch_order.proofs.construction.Construction.take_given.Goals as goal

pub returns : goal.returns
returns g c =
    subst (λ l. IsBegunWith c.args.graph.now c.args.hops.number l c.loop-place.construction)
    (take_all c.loop-place.place c.args.given.now (omega (arith, c.loop-place-test.false))) c.loop-place.invariant
