-- Once each key is above the least sum, the search has found the least weight and the ways back.
use Rattle.std.proofs.Common.{refl}
use Rattle.ch_hierarchy.specs.Hierarchy.{nodes_of}
use Rattle.ch_hierarchy.specs.declared.side.Side.TheVariants.{Up}
use Rattle.ch_query.proofs.by_weight.MarkedEnds.{marked_way}
use Rattle.ch_query.proofs.by_weight.MarkedSums.{marked_begun}
use Rattle.ch_query.proofs.weights.search.WeightSearch.least_marked.Goals as goal

pub loop-ends-init : goal.loop-ends-init
loop-ends-init c = marked_begun c.args.hierarchy.now _ c.begin.new.self c.args.marks.now _ refl c.requires.count c.begin.ensures.least
    c.begin.ensures.unsettled

pub returns-clause-way : goal.returns-clause-way
returns-clause-way c =
    let e = c.advance_marked.ensures in
    marked_way c.args.hierarchy.now c.requires.kept _ c.advance_marked.new.self _ _ e.least (e.past c.loop-ends-test.false)

pub returns-clause-clean : goal.returns-clause-clean
returns-clause-clean c =
    c.clean.ensures (nodes_of c.args.hierarchy.now) (c.advance_marked.ensures.least.sum.weighing.sides Up).sizes
