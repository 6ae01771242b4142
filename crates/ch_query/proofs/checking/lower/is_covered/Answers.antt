-- A node is covered once each leg into it is covered together with all legs up.
use Rattle.std.proofs.Common.{◌∙◌, refl}
use Rattle.ch_hierarchy.proofs.theory.NoLeg.{no_leg}
use Rattle.ch_query.specs.Covering.{IsCoveredFrom}
use Rattle.ch_query.proofs.faults.FirstFailing.{read_more}
use Rattle.ch_query.proofs.faults.Pairs.{all_covered}
use Rattle.ch_query.proofs.checking.lower.is_covered.Goals as goal

pub loop-into-preserved : goal.loop-into-preserved
loop-into-preserved c = record {
  covered = read_more (IsCoveredFrom c.args.hierarchy.now c.args.node) _ c.loop-into.into-index no_leg c.loop-into.invariant.covered
      c.loop-into-test.true
      (c.if-not-are_covered_from.ensures.covered.0 refl);
  sides = c.are_covered_from.ensures.sides ∙ c.loop-into.invariant.sides;
}

pub returns-clause-covered : goal.returns-clause-covered
returns-clause-covered c = (
  λ _. all_covered c.args.hierarchy.now c.args.node _ c.loop-into.into-index no_leg c.down-into-items.ensures.row
      c.loop-into-test.false c.loop-into.invariant.covered,
  λ _. refl,
)
