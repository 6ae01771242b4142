-- A number that is a node extends those before it, so past the last number all are nodes.
use Rattle.std.proofs.Common.{◌<◌, refl, subst, arith}
use Rattle.std.specs.Prelude.{All}
use Rattle.std.proofs.lemmas.List.{take_all}
use Rattle.std.proofs.lemmas.List.Elements.{All-more}
use Rattle.ch_engine.proofs.words.are_nodes.Goals as goal

pub loop-number-preserved : goal.loop-number-preserved
loop-number-preserved c =
    All-more (λ node. node < c.args.nodes) c.args.numbers.now c.loop-number.number-index 0 c.loop-number-test.true
    c.loop-number.invariant (omega (arith, c.if-number-nodes.false))

pub returns : goal.returns
returns c =
    let every = take_all c.loop-number.number-index c.args.numbers.now (omega (arith, c.loop-number-test.false)) in
    (λ _. subst (All (λ node. node < c.args.nodes)) every c.loop-number.invariant, λ _. refl)
