-- One more node loses its leg at the contracted node, so in the end no list has a leg at it.
use Rattle.std.proofs.Common.{◌≤◌, length, get_or, take, refl, subst, sym, ◌∙◌, arith}
use Rattle.std.proofs.lemmas.List.{take_more, take_all}
use Rattle.ch_contract.specs.LegLists.{AreTaken}
use Rattle.ch_hierarchy.proofs.theory.NoLeg.{no_leg}
use Rattle.ch_contract.proofs.code.ListEdits.{taken_none, taken_more, taken_all}
use Rattle.ch_contract.proofs.leg_lists.LegLists.take_from.Goals as goal

pub loop-leg-init : goal.loop-leg-init
loop-leg-init c = (taken_none c.args.v c.args.self.now.rows c.requires.rows, refl)

pub take-requires : goal.take-requires
take-requires c =
    let inside = c.requires.nodes c.loop-leg.leg-index no_leg c.loop-leg-test.true in
    record {
      node = omega (arith, inside, c.loop-leg.invariant.0.size);
      rows = c.loop-leg.invariant.0.rows;
    }

pub loop-leg-preserved : goal.loop-leg-preserved
loop-leg-preserved c =
    let others = c.args.others.now in
    let i = c.loop-leg.leg-index in
    let l = get_or others i no_leg in (
      subst (λ z. AreTaken c.args.v z c.args.self.now.rows c.take.new.self.rows) (sym (take_more others i no_leg c.loop-leg-test.true))
          (taken_more c.args.v (take i others) l c.args.self.now.rows c.loop-leg.self.rows c.take.new.self.rows
          c.loop-leg.invariant.0 c.take.ensures.legs),
      c.take.ensures.aside ∙ c.loop-leg.invariant.1,
    )

pub returns : goal.returns
returns c =
    let others = c.args.others.now in
    let past : length others ≤ c.loop-leg.leg-index = omega arith in
    let t = subst (λ z. AreTaken c.args.v z c.args.self.now.rows c.loop-leg.self.rows) (take_all c.loop-leg.leg-index others past)
    c.loop-leg.invariant.0 in
    record {
      size = t.size;
      rows = t.rows;
      legs = taken_all c.args.v others c.args.self.now.rows c.loop-leg.self.rows t
          c.requires.covers;
      aside = c.loop-leg.invariant.1;
    }
