-- Each node that is taken is the next one by depth, and once none waits the hierarchy is the one from the given nodes.
use Rattle.std.proofs.Common.{◌<◌, refl, sym, ◌∙◌, subst, arith}
use Rattle.std.specs.Prelude.{All}
use Rattle.ch_contract.specs.Legs.{AreLegsWithin}
use Rattle.ch_order.specs.Progress.{IsStep, AreAll}
use Rattle.ch_order.specs.Priorities.{IsRanked}
use Rattle.ch_order.specs.Construction.{progress_of}
use Rattle.ch_contract.specs.Remaining.{legs_of}
use Rattle.ch_contract.proofs.theory.GivenNodes.{other_nodes}
use Rattle.ch_order.proofs.PrioritySteps.{key_within}
use Rattle.ch_order.proofs.StepsMade.{steps_at_start, steps_next, steps_count, steps_node, steps_at_end}
use Rattle.ch_order.proofs.StepsMade.{steps_within, steps_depth, steps_levelled}
use Rattle.ch_order.proofs.construction.alone.contract_others.Goals as goal

pub rank_alone-requires-clause-nodes : goal.rank_alone-requires-clause-nodes
rank_alone-requires-clause-nodes c =
    subst (λ n. All (λ x. x < n) c.args.others.now) (sym c.requires.begun.nodes) (other_nodes _ _ _ c.requires.order)

pub loop-node-init : goal.loop-node-init
loop-node-init c =
    let first = c.in_ok-construction.ensures in
    let begun = c.requires.begun in
    let ranked = subst (λ n. IsRanked c.args.keys n c.args.hops.number c.args.others.now (progress_of c.args.begun)
    (progress_of c.in_ok-construction.construction)) begun.nodes first.ranked in (
      first.sizes,
      first.nodes ∙ begun.nodes,
      steps_at_start c.args.keys c.args.graph.now c.args.hops.number c.args.given.now c.args.others.now _ _ c.requires.order begun.after
          ranked,
      first.ready c.args.hops.number begun.ready,
    )

pub contract_alone-requires : goal.contract_alone-requires
contract_alone-requires c =
    let i = c.loop-node.invariant in
    record {
      next = record {
        sizes = i.0;
        limits = subst (λ n. AreLegsWithin n (legs_of c.loop-node.construction.remaining)) (sym i.1) (steps_within _ _ _ _ _ i.2);
        node = omega (arith, i.1, steps_node _ _ _ _ _ i.2 _ c.in-Some.ensures);
        count = omega (arith, i.1, steps_count _ _ _ _ _ i.2 _ c.in-Some.ensures);
        depth = steps_depth _ _ _ _ _ i.2 c.in-Some.node;
        ready = i.3;
      };
    }

pub is_exact-requires : goal.is_exact-requires
is_exact-requires c = key_within _ _ _ c.in-Some.ensures.has

pub loop-node-smaller : goal.loop-node-smaller
loop-node-smaller c =
    let i = c.loop-node.invariant in
    let next = c.in_ok-construction-2.ensures in
    omega (arith, i.1, steps_count _ _ _ _ _ i.2 _ c.in-Some.ensures, next.nodes, next.step.contraction.contracted)

pub loop-node-preserved : goal.loop-node-preserved
loop-node-preserved c =
    let i = c.loop-node.invariant in
    let next = c.in_ok-construction-2.ensures in
    let step = subst (λ n. IsStep c.args.keys n c.args.hops.number (progress_of c.loop-node.construction) c.in-Some.node
    (progress_of c.in_ok-construction-2.construction)) i.1 next.step in (
      next.sizes,
      next.nodes ∙ i.1,
      steps_next _ _ _ _ _ i.2 _ c.in-Some.ensures
          (c.if-not-is_exact.ensures.exact refl _ c.in-Some.ensures.has) _ step,
      next.ready,
    )

pub finish-requires-clause-levelled : goal.finish-requires-clause-levelled
finish-requires-clause-levelled c H all =
    let i = c.loop-node.invariant in
    let count = i.0.nodes in
    steps_levelled _ _ _ _ _ i.2 c.in_default.ensures (omega (arith, count, i.1)) H
    (subst (λ n. AreAll n (progress_of c.loop-node.construction) H) i.1 all)

pub returns-clause-hierarchy : goal.returns-clause-hierarchy
returns-clause-hierarchy c =
    let i = c.loop-node.invariant in
    steps_at_end _ _ _ _ _ i.2 c.in_default.ensures _
    (subst (λ n. AreAll n (progress_of c.loop-node.construction) c.in_ok-hierarchy.hierarchy) i.1 c.in_ok-hierarchy.ensures)
