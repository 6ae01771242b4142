-- The sum on the way back is that of the parent and that of the leg from there, if both are known.
use Rattle.std.proofs.Common.{ℕ, sym, subst, ◌∙◌}
use Rattle.std.specs.Prelude.{List}
use Rattle.ch_query.specs.Routes.{DescentStep, IsDescent}
use Rattle.ch_query.specs.SearchTree.{FollowsParents}
use Rattle.ch_hierarchy.specs.Side.{rows_of}
use Rattle.ch_engine.specs.LegSums.{IsStepsSum}
use Rattle.ch_engine.proofs.SumTrees.{back_more, back_none}
use Rattle.ch_engine.proofs.sum_trees.sum_back.Goals as goal

pub returns-then-entry-source : goal.returns-then-entry-source
returns-then-entry-source c = λ lines values parents sums read before.
    back_none c.args.side c.args.hierarchy.now lines values c.args.source parents c.args.entry.node c.if-entry-source.true

pub returns : goal.returns
returns c = λ lines values parents sums read before known.
    let H = c.args.hierarchy.now in
    let side = c.args.side in
    let s = c.args.source in
    let both = c.joined.ensures known in
    let leg = c.word_by_rank-here.ensures lines values sums both.0 in
    let e = c.sum_at.ensures both.1 in
    let rest : (steps : List DescentStep) → IsDescent (rows_of H side) s c.args.entry.parent steps →
    FollowsParents parents c.args.entry.parent steps → IsStepsSum side H lines values steps c.sum_at.result =
    subst (λ (n : ℕ). (steps : List DescentStep) → IsDescent (rows_of H side) s n steps → FollowsParents parents n steps →
    IsStepsSum side H lines values steps c.sum_at.result) e.2
    (subst (λ (w : ℕ). (steps : List DescentStep) → IsDescent (rows_of H side) s e.0.node steps → FollowsParents parents e.0.node steps →
    IsStepsSum side H lines values steps w) e.3 (before e.0 e.1 (λ none. both.1 (sym e.3 ∙ none)))) in
    back_more side H lines values s parents c.requires.kept.2.levelled c.args.entry.node c.args.entry.parent c.if-entry-source.false read
    leg.0 leg.1 leg.2 c.word_by_rank-here.result c.sum_at.result c.joined.result leg.3 rest both.2
