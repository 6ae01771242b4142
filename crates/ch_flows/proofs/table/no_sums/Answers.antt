-- Before any row nothing was added or is held.
use Rattle.std.proofs.Common.{ap, arith}
use Rattle.ch_flows.specs.Gathering.{gathered, worth}
use Rattle.ch_flows.proofs.Weighed.{weighed-replicate}
use Rattle.ch_flows.proofs.table.no_sums.Goals as goal

pub returns-clause-none : goal.returns-clause-none
returns-clause-none c = λ H u w share are.
    let branches = c.args.columns.now.branches.items in
    let held = c.in_ok-held.ensures.items_if_clones_equal (λ y p. p) in
    omega (
      arith,
      c.in_ok-legs.ensures.none H c.args.plan.now.layout.links.items u w share are,
      ap (gathered share branches) held,
      weighed-replicate (worth share branches) c.len-2.result,
    )
