-- One more pair is counted: along its way, or as one without a route.
use Rattle.std.proofs.Common.{◌++◌, [], ◌∷◌, ◌+◌, ℕ, List, sym, subst, arith, ◌∙◌}
use Rattle.ch_flows.specs.Flows.{arcs_of}
use Rattle.ch_flows.specs.Plans.{IsWay}
use Rattle.ch_flows.proofs.Served.{counted_pair, missing_one, missing_zero, served_more}
use Rattle.ch_flows.proofs.pairs.Way.count.Goals as goal

pub returns-in_default-clause-refused : goal.returns-in_default-clause-refused
returns-in_default-clause-refused c = λ H plan sources targets demands n missed of long low pair counted.
    let links = plan.layout.links.items in
    let demand = c.args.demand in
    let answer = pair.0.0 in
    let is : IsWay H links c.deref.result.now (arcs_of answer) =
    subst (λ (l : List ℕ). IsWay H links l (arcs_of answer)) (sym c.deref.ensures.value) pair.0.3 in
    let more = served_more H sources targets demands n counted.0 demand answer counted.1 (sym pair.1) pair.0.2 in (
      n + 1,
      counted.0 ++ (demand, answer) ∷ [],
      omega (arith, low),
      more,
      (c.in_default.ensures {u = tt}).excess H links plan.parts.items counted.0 answer long of.is counted.2 is,
    )

pub returns-then-is_found-clause-counted : goal.returns-then-is_found-clause-counted
returns-then-is_found-clause-counted c = λ H plan sources targets demands n missed of pair counted.
    let links = plan.layout.links.items in
    counted_pair H links sources targets demands n c.args.self.now.places.items c.args.is_found c.args.demand pair c.args.flows.now
    c.add_pair.new.flows missed 0 counted
    c.deref.result.now (λ is. (c.in-Ok.ensures {u = tt}).added H links plan.parts.items counted.0 pair.0.0 of.is counted.2 is)
    c.deref.ensures.value (missing_zero pair.0.0 (sym pair.0.1 ∙ c.if-is_found.true))

pub returns-else-is_found-clause-counted : goal.returns-else-is_found-clause-counted
returns-else-is_found-clause-counted c = λ H plan sources targets demands n missed of pair counted.
    let links = plan.layout.links.items in
    counted_pair H links sources targets demands n c.args.self.now.places.items c.args.is_found c.args.demand pair c.args.flows.now
    c.add_pair.new.flows missed 1 counted
    c.deref.result.now (λ is. (c.in-Ok.ensures {u = tt}).added H links plan.parts.items counted.0 pair.0.0 of.is counted.2 is)
    c.deref.ensures.value (missing_one pair.0.0 (sym pair.0.1 ∙ c.if-is_found.false))
