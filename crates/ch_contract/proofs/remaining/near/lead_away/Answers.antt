-- A leg that leads away extends those before it, so past the last one all lead away.
use Rattle.std.proofs.Common.{◌≢◌, ◌*◌, ◌<◌, take, get_or, refl, subst, All}
use Rattle.std.proofs.lemmas.List.{take_more, take_all}
use Rattle.std.proofs.lemmas.List.Elements.{All-push}
use Rattle.ch_hierarchy.specs.declared.leg.Leg.{Leg}
use Rattle.ch_hierarchy.proofs.theory.NoLeg.{no_leg}
use Rattle.ch_contract.proofs.remaining.near.lead_away.Goals as goal

pub loop-leg-preserved : goal.loop-leg-preserved
loop-leg-preserved c =
    let legs = c.args.legs.now in
    let i = c.loop-leg.leg-index in
    rw (take_more legs i no_leg c.loop-leg-test.true)
    (All-push (λ (l : Leg). l.node ≢ c.args.v → 2 * c.args.weight < l.cost.weight) (take i legs) (get_or legs i no_leg)
    c.loop-leg.invariant (c.if-not-leads_away.ensures refl))

pub returns : goal.returns
returns c all = subst (All (λ (l : Leg). l.node ≢ c.args.v → 2 * c.args.weight < l.cost.weight))
    (take_all c.loop-leg.leg-index c.args.legs.now c.loop-leg-test.false) c.loop-leg.invariant
