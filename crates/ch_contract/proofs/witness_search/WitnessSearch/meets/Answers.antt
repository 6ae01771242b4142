-- A leg that avoids the node and meets a known chain is found, and if no leg does, no chain is within the bound.
use Rattle.std.proofs.Common.{refl, sym, ◌∙◌, ap, subst, arith, length, get_or, ◌≡◌, ◌≤◌, true, Contains, inl, inr}
use Rattle.std.proofs.lemmas.List.Elements.{Contains-get_or}
use Rattle.ch_hierarchy.specs.declared.leg.Leg.{Leg}
use Rattle.ch_contract.specs.KnownCosts.{known_of}
use Rattle.ch_contract.specs.Meeting.{IsMetAt}
use Rattle.ch_hierarchy.proofs.theory.NoLeg.{no_leg}
use Rattle.ch_contract.proofs.code.Meetings.{all_taken, one_more_taken}
use Rattle.ch_contract.proofs.witness_search.WitnessSearch.meets.Goals.{else-leg-avoided-via-then-leg-avoided+else-meets_at}
use Rattle.ch_contract.proofs.witness_search.WitnessSearch.meets.Goals.{else-leg-avoided-via-else-leg-avoided}
use Rattle.ch_contract.proofs.witness_search.WitnessSearch.meets.Goals as goal

pub loop-leg-preserved : goal.loop-leg-preserved
loop-leg-preserved g c k among off met =
    let legs = c.at-leg-items.result.now in
    let i = c.loop-leg.leg-index in
    elim (one_more_taken legs i no_leg k c.loop-leg-test.true among) [
      | inl early ↦ c.loop-leg.invariant k early off met
      | inr here ↦ elim c.else-leg-avoided.branch [
        | else-leg-avoided-via-then-leg-avoided+else-meets_at w ↦
            let yes : w.meets_at.result ≡ true =
            w.meets_at.ensures.1 (subst (λ z. IsMetAt (known_of g.K.HeldCost.cost c.args.self.now.known) c.args.lists.now.rows
            (get_or legs i no_leg) z c.args.hops) (sym c.of-most.ensures)
            (subst (λ (z : Leg). IsMetAt (known_of g.K.HeldCost.cost c.args.self.now.known) c.args.lists.now.rows z c.args.most
            c.args.hops) (sym here) met)) in cc
        | else-leg-avoided-via-else-leg-avoided w ↦ off (ap (λ (z : Leg). z.node) (sym here) ∙ w.if-leg-avoided.false)
      ]
    ]

pub returns-then-meets_at : goal.returns-then-meets_at
returns-then-meets_at g c =
    let known = known_of g.K.HeldCost.cost c.args.self.now.known in
    let legs = c.at-leg-items.result.now in
    let i = c.loop-leg.leg-index in
    let l = get_or legs i no_leg in
    let among = subst (λ z. Contains z l) c.at-leg-items.ensures (Contains-get_or legs i no_leg c.loop-leg-test.true) in
    let met = subst (λ z. IsMetAt known c.args.lists.now.rows l z c.args.hops) c.of-most.ensures
    (c.meets_at.ensures.0 c.if-meets_at.true) in
    ((λ t. (l, among, c.if-leg-avoided.true, met)), λ m. refl)

pub returns : goal.returns
returns g c =
    let legs = c.at-leg-items.result.now in
    let past : length legs ≤ c.loop-leg.leg-index = omega arith in (
      (λ e. cc),
      λ m. absurd
          (c.loop-leg.invariant m.0
          (all_taken legs c.loop-leg.leg-index m.0 past (subst (λ z. Contains z m.0) (sym c.at-leg-items.ensures) m.1)) m.2 m.3),
    )
