-- Once no key is below the least sum, it is the least weight of going up and then down, or no node is reached from both.
use Rattle.std.proofs.Common.{arith}
use Rattle.ch_hierarchy.specs.Hierarchy.{nodes_of}
use Rattle.ch_hierarchy.specs.declared.side.Side.TheVariants.{Up}
use Rattle.ch_query.proofs.by_weight.WeighingEnds.{least_known, none_known}
use Rattle.ch_query.proofs.weights.search.WeightSearch.least_weight.Goals as goal

pub returns-then-least-eq-UNREACHED-clause-least : goal.returns-then-least-eq-UNREACHED-clause-least
returns-then-least-eq-UNREACHED-clause-least c =
    let e = c.advance.ensures in
    none_known c.args.hierarchy.now c.requires.kept _ c.advance.new.self c.advance.new.least e.least (e.past c.loop-ends-test.false)
    c.if-least-eq-UNREACHED.true

pub returns-clause-least : goal.returns-clause-least
returns-clause-least c =
    let e = c.advance.ensures in
    let small = e.least.small in
    let away = c.if-least-eq-UNREACHED.false in
    least_known c.args.hierarchy.now c.requires.kept _ c.advance.new.self c.advance.new.least e.least (e.past c.loop-ends-test.false)
    (omega arith)

pub returns-then-least-eq-UNREACHED-clause-clean : goal.returns-then-least-eq-UNREACHED-clause-clean
returns-then-least-eq-UNREACHED-clause-clean c =
    c.clean.ensures (nodes_of c.args.hierarchy.now) (c.advance.ensures.least.weighing.sides Up).sizes

pub returns-clause-clean : goal.returns-clause-clean
returns-clause-clean c = c.clean.ensures (nodes_of c.args.hierarchy.now) (c.advance.ensures.least.weighing.sides Up).sizes
