-- A second leg that meets a known chain is found, and if no leg does, no such chain is within the bound.
use Rattle.std.proofs.Common.{refl, sym, ◌∙◌, ap, subst, arith, length, get_or, ◌≡◌, ◌≤◌, true, inl, inr}
use Rattle.std.proofs.lemmas.List.Elements.{Contains-get_or}
use Rattle.ch_graph.specs.Cost.{IsAtMost, cost_sum}
use Rattle.ch_hierarchy.specs.declared.leg.Leg.{Leg}
use Rattle.ch_contract.specs.HeldCosts.{IsKnownCost}
use Rattle.ch_contract.specs.KnownCosts.{known_at, known_of}
use Rattle.ch_hierarchy.proofs.theory.NoLeg.{no_leg}
use Rattle.ch_contract.proofs.code.Meetings.{all_taken, one_more_taken}
use Rattle.ch_contract.proofs.code.KnownViews.{known_cost_of}
use Rattle.ch_contract.proofs.witness_search.WitnessSearch.meets_beyond.Goals as goal

pub plus-requires-clause-known : goal.plus-requires-clause-known
plus-requires-clause-known g c =
    let cost = g.K.HeldCost.cost in
    let i = c.loop-leg.leg-index in
    let light = c.requires.legs i no_leg c.loop-leg-test.true in
    let l = get_or c.args.legs.now i no_leg in
    subst (IsKnownCost g.K.HeldCost.limit) (known_cost_of cost c.args.self.now.known l.node c.index.result.now light.node
    ∙ sym (ap cost c.index.ensures)) (c.requires.small l.node)

pub returns-then-is_at_most : goal.returns-then-is_at_most
returns-then-is_at_most g c =
    let cost = g.K.HeldCost.cost in
    let known = known_of cost c.args.self.now.known in
    let first = cost c.args.first in
    let legs = c.args.legs.now in
    let i = c.loop-leg.leg-index in
    let l = get_or legs i no_leg in
    let light = c.requires.legs i no_leg c.loop-leg-test.true in
    let two = c.plus-cost.ensures ∙ ap (λ z. cost_sum z first) c.of.ensures in
    let held_cost = ap cost c.index.ensures ∙ sym (known_cost_of cost c.args.self.now.known l.node c.index.result.now light.node) in
    let sum = c.plus.ensures ∙ ap (λ z. cost_sum z (cost c.plus-cost.result)) held_cost ∙ ap (cost_sum (known_at known l.node)) two in (
      (λ t. (
        l,
        Contains-get_or legs i no_leg c.loop-leg-test.true,
        subst (λ z. IsAtMost z (cost c.args.most)) sum (c.is_at_most.ensures.0 c.if-is_at_most.true),
      )),
      λ m. refl,
    )

pub loop-leg-preserved : goal.loop-leg-preserved
loop-leg-preserved g c k among met =
    let cost = g.K.HeldCost.cost in
    let known = known_of cost c.args.self.now.known in
    let first = cost c.args.first in
    let most = cost c.args.most in
    let legs = c.args.legs.now in
    let i = c.loop-leg.leg-index in
    let l = get_or legs i no_leg in
    let two = c.plus-cost.ensures ∙ ap (λ z. cost_sum z first) c.of.ensures in
    elim (one_more_taken legs i no_leg k c.loop-leg-test.true among) [
      | inl early ↦ c.loop-leg.invariant k early met
      | inr here ↦
          let le = subst (λ (z : Leg). IsAtMost (cost_sum (known_at known z.node) (cost_sum z.cost first)) most) (sym here) met in
          let light = c.requires.legs i no_leg c.loop-leg-test.true in
          let held_cost = ap cost c.index.ensures ∙ sym (known_cost_of cost c.args.self.now.known l.node c.index.result.now light.node) in
          let sum = c.plus.ensures ∙ ap (λ z. cost_sum z (cost c.plus-cost.result)) held_cost ∙ ap (cost_sum (known_at known l.node)) two in
          let yes : c.is_at_most.result ≡ true = c.is_at_most.ensures.1 (subst (λ z. IsAtMost z most) (sym sum) le) in cc
    ]

pub returns : goal.returns
returns g c =
    let past : length c.args.legs.now ≤ c.loop-leg.leg-index = omega arith in
    ((λ e. cc), λ m. absurd (c.loop-leg.invariant m.0 (all_taken c.args.legs.now c.loop-leg.leg-index m.0 past m.1) m.2))
