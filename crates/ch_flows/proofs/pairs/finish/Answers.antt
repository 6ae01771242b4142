-- What is handed down to an arc is its flow, or it is too much.
use Rattle.std.proofs.Common.{List, Option, length, subst, sym, arith}
use Rattle.ch_flows.specs.declared.handing.Halves.{Halves as AnyHalves}
use Rattle.ch_flows.specs.Plans.{AreFlows, IsPlan, IsTooMuch}
use Rattle.ch_flows.proofs.pairs.finish.Goals as goal

pub returns-in_default-clause-refused : goal.returns-in_default-clause-refused
returns-in_default-clause-refused c = λ H sources targets demands of counted.
    let links = c.args.plan.now.layout.links.items in
    let e = c.deref.ensures.value in
    let plan : IsPlan H links c.deref.result.now = subst (IsPlan H links) (sym e) of.is in
    let much : IsTooMuch links c.deref.result.now counted.0 =
    (c.in_default.ensures {u = tt}).excess H links counted.0 plan counted.2 in (
      length sources,
      counted.0,
      omega arith,
      counted.1,
      subst (λ (l : List (Option AnyHalves)). IsTooMuch links l counted.0) e much,
    )

pub returns-clause-flows : goal.returns-clause-flows
returns-clause-flows c = λ H sources targets demands of counted.
    let links = c.args.plan.now.layout.links.items in
    let e = c.deref.ensures.value in
    let new = c.take_down.new.flows in
    let plan : IsPlan H links c.deref.result.now = subst (IsPlan H links) (sym e) of.is in
    let flows : AreFlows links c.deref.result.now counted.0 new =
    (c.in-Ok.ensures {u = tt}).flows H links counted.0 plan counted.2 in (
      counted.0,
      counted.1,
      subst (λ (l : List (Option AnyHalves)). AreFlows links l counted.0 new) e flows,
      counted.3,
    )
