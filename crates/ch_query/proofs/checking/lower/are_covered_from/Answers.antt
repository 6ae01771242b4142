-- The costs of two legs through a node add up without overflow, and one more leg up is covered together with this one.
use Rattle.std.proofs.Common.{arith, ◌∙◌, refl}
use Rattle.ch_hierarchy.proofs.theory.NoLeg.{no_leg}
use Rattle.std.proofs.lemmas.Bool.{false≢true}
use Rattle.ch_hierarchy.specs.declared.side.Side.TheVariants.{Up, Down}
use Rattle.ch_query.proofs.one_side.Expanding.{leg_up}
use Rattle.ch_query.proofs.faults.FirstFailing.{read_more}
use Rattle.ch_query.proofs.faults.Pairs.{IsPairCovered, row_leg_up}
use Rattle.ch_query.proofs.checking.lower.are_covered_from.Goals as goal

pub plus-most-requires-clause-weights : goal.plus-most-requires-clause-weights
plus-most-requires-clause-weights c =
    let k = c.up-out-items.ensures.levelled in
    let a = (leg_up c.args.hierarchy.now k Down c.args.node c.args.into c.requires.has).weight in
    let b = (row_leg_up c.args.hierarchy.now k Up c.args.node _ c.loop-out.out-index no_leg c.up-out-items.ensures.row
    c.loop-out-test.true).1.weight in
    omega arith

pub plus-most-requires-clause-arcs : goal.plus-most-requires-clause-arcs
plus-most-requires-clause-arcs c =
    let k = c.up-out-items.ensures.levelled in
    let a = (leg_up c.args.hierarchy.now k Down c.args.node c.args.into c.requires.has).arcs in
    let b = (row_leg_up c.args.hierarchy.now k Up c.args.node _ c.loop-out.out-index no_leg c.up-out-items.ensures.row
    c.loop-out-test.true).1.arcs in
    let count = k.count in
    omega arith

pub is_pair_covered-requires-clause-start : goal.is_pair_covered-requires-clause-start
is_pair_covered-requires-clause-start c =
    (leg_up c.args.hierarchy.now c.up-out-items.ensures.levelled Down c.args.node c.args.into c.requires.has).node

pub is_pair_covered-requires-clause-end : goal.is_pair_covered-requires-clause-end
is_pair_covered-requires-clause-end c =
    (row_leg_up c.args.hierarchy.now c.up-out-items.ensures.levelled Up c.args.node _ c.loop-out.out-index no_leg
    c.up-out-items.ensures.row c.loop-out-test.true).1.node

pub returns-then-not-is_pair_covered-clause-covered : goal.returns-then-not-is_pair_covered-clause-covered
returns-then-not-is_pair_covered-clause-covered c =
    let leg = row_leg_up c.args.hierarchy.now c.up-out-items.ensures.levelled Up c.args.node _ c.loop-out.out-index no_leg
    c.up-out-items.ensures.row c.loop-out-test.true in
    let tells = rw (c.plus-most.ensures) at c.if-not-is_pair_covered.ensures.covered in
    (λ f. absurd (false≢true f), λ all. tells.1 (all _ leg.0 c.if-into-out.false))

pub loop-out-preserved : goal.loop-out-preserved
loop-out-preserved c =
    let tells = rw (c.plus-most.ensures) at c.if-not-is_pair_covered.ensures.covered in
    record {
      covered = read_more (IsPairCovered c.args.hierarchy.now c.args.into) _ c.loop-out.out-index no_leg
          c.loop-out.invariant.covered c.loop-out-test.true (λ ne. tells.0 refl);
      sides = c.is_pair_covered.ensures.sides ∙ c.loop-out.invariant.sides;
    }
