-- The legs of the node are taken, or the node is not reached.
use Rattle.std.proofs.Common.{◌<◌, arith, subst}
use Rattle.ch_hierarchy.proofs.code.Ranked.{node_of_rank}
use Rattle.ch_tree.specs.declared.sweep.TheConstants.{NEVER}
use Rattle.ch_tree.specs.Tree.{AreOffered, weight_at}
use Rattle.ch_tree.proofs.theory.Sweeps.{here_light, legs_within, stays, swept_skips, swept_step}
use Rattle.ch_tree.proofs.theory.Walks.{read_weight}
use Rattle.ch_tree.proofs.sweep.sweep.Goals as goal

pub relax-requires-clause-weight : goal.relax-requires-clause-weight
relax-requires-clause-weight c =
    let r = c.requires in
    let size = r.swept.size in
    let rank = r.rank in
    let read = read_weight c.args.costs.now.items c.args.rank c.index-weight.result.now c.index-weight.result.now
    (omega arith) c.index-weight.ensures in
    let known = c.if-weight-bound.true in
    let most = r.swept.most in
    let light = here_light c.args.hierarchy.now r.levelled c.args.side c.args.parents.now r.tree c.args._start r.start c.args.bound
    c.args.rank r.rank c.args.costs.now.items r.swept (omega arith) in
    omega arith

pub relax-requires-clause-legs : goal.relax-requires-clause-legs
relax-requires-clause-legs c l has =
    let r = c.requires in
    let n = node_of_rank c.args.hierarchy.now r.levelled c.args.rank r.rank in
    legs_within c.args.hierarchy.now r.levelled c.args.side c.args.parents.now r.tree c.args._start r.start c.args.bound c.args.rank
    r.rank c.args.costs.now.items r.swept n.0 _
    (c.ranked_legs.ensures.row n.0 n.1 n.2) l has

-- the ends of the legs were offered the weight of the node
offered : (c : goal.After-relax) →
    AreOffered (weight_at c.args.costs.now.items c.args.rank) c.ranked_legs.result.now c.args.costs.now.items c.relax.new.costs.items
offered c =
    let size = c.requires.swept.size in
    let rank = c.requires.rank in
    subst (λ w. AreOffered w c.ranked_legs.result.now c.args.costs.now.items c.relax.new.costs.items)
    (read_weight c.args.costs.now.items c.args.rank c.index-weight.result.now c.index-weight.result.now
    (omega arith) c.index-weight.ensures) c.relax.ensures

-- it is known
known : (c : goal.After-relax) → weight_at c.args.costs.now.items c.args.rank < NEVER
known c =
    let size = c.requires.swept.size in
    let rank = c.requires.rank in
    let read = read_weight c.args.costs.now.items c.args.rank c.index-weight.result.now c.index-weight.result.now
    (omega arith) c.index-weight.ensures in
    let less = c.if-weight-bound.true in
    let most = c.requires.swept.most in
    omega arith

pub returns-then-weight-bound-clause-swept : goal.returns-then-weight-bound-clause-swept
returns-then-weight-bound-clause-swept c =
    let r = c.requires in
    let n = node_of_rank c.args.hierarchy.now r.levelled c.args.rank r.rank in
    swept_step c.args.hierarchy.now r.levelled c.args.side c.args.parents.now r.tree c.args._start r.start c.args.bound c.args.rank r.rank
    c.args.costs.now.items r.swept
    n.0 n.1 n.2 (known c) c.ranked_legs.result.now (c.ranked_legs.ensures.row n.0 n.1 n.2) c.relax.new.costs.items (offered c)

pub returns-else-weight-bound-clause-swept : goal.returns-else-weight-bound-clause-swept
returns-else-weight-bound-clause-swept c =
    let r = c.requires in
    let size = r.swept.size in
    let rank = r.rank in
    let read = read_weight c.args.costs.now.items c.args.rank c.index-weight.result.now c.index-weight.result.now
    (omega arith) c.index-weight.ensures in
    swept_skips c.args.hierarchy.now r.levelled c.args.side c.args.parents.now r.tree c.args._start r.start c.args.bound c.args.rank
    r.rank c.args.costs.now.items r.swept
    (λ known. let not = c.if-weight-bound.false in omega arith)

pub returns-then-weight-bound-clause-stays : goal.returns-then-weight-bound-clause-stays
returns-then-weight-bound-clause-stays c =
    let r = c.requires in
    let n = node_of_rank c.args.hierarchy.now r.levelled c.args.rank r.rank in
    stays c.args.hierarchy.now r.levelled c.args.side c.args.parents.now r.tree c.args._start r.start c.args.bound c.args.rank r.rank
    c.args.costs.now.items r.swept
    n.0 n.1 n.2 (known c) c.ranked_legs.result.now (c.ranked_legs.ensures.row n.0 n.1 n.2) c.relax.new.costs.items (offered c)
