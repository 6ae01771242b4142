-- What is written on the lines are the flows that were found, or some arc has too much.
use Rattle.std.proofs.Common.{List, ℕ, length, refl, subst}
use Rattle.std.specs.Prelude.{IfErr, IfOk}
use Rattle.ch_flows.specs.declared.pairs.LegFlows.{LegFlows}
use Rattle.ch_flows.specs.Links.{from_of, link_at, to_of}
use Rattle.ch_flows.specs.Plans.{AreFlowsOf, IsRefusal}
use Rattle.ch_engine.specs.Flows.{ArePut}
use Rattle.ch_engine.proofs.LineFlows.{line_flow}
use Rattle.ch_engine.proofs.network.Network.put_found.Goals as goal

pub returns-in-Ok : goal.returns-in-Ok
returns-in-Ok c = λ sources targets demands found refused.
    let H = c.args.self.now.0 in
    let lines = c.args.self.now.1 in
    let plan = c.args.plan.now in
    let legs = c.in-Ok.found.legs.items in
    let out = c.put_flows.new.out in
    let flows : AreFlowsOf H plan sources targets demands legs c.in-Ok.found.missed =
    subst (λ r. IfOk r (λ (f : LegFlows). AreFlowsOf H plan sources targets demands f.legs.items f.missed)) c.in-Ok.is found in
    let put : ArePut H lines plan legs (length plan.parts.items) out =
    subst (λ (l : List ℕ). ArePut H lines plan l (length plan.parts.items) out) c.deref.ensures.value c.put_flows.ensures.put in (
      (
        flows.0,
        flows.1,
        flows.3,
        λ line low. line_flow H lines plan c.requires.plan legs sources targets demands (length sources) flows.0 flows.1 flows.2 out put
            line low,
      ),
      c.put_flows.ensures.long,
    )

pub returns-in-TooLarge : goal.returns-in-TooLarge
returns-in-TooLarge c = λ sources targets demands found refused.
    let plan = c.args.plan.now in
    let links = plan.layout.links.items in
    let Told = IsRefusal c.args.self.now.0 plan sources targets demands in
    let is = subst Told c.in-TooLarge.is (subst (λ r. IfErr r Told) c.in-Err.is refused) in
    let link = link_at links is.4.0 in
    ((is.0, from_of link, to_of link, is.1, is.2, is.3, is.4.3), refl)
