-- Where what is written names no hierarchy, the one that takes less time serves in place of the one that the rules name.
use Rattle.ch_run.proofs.Loading.{built_in_its_place}
use Rattle.ch_run.proofs.building.build_in_order.Goals as goal

pub returns-in-Ok-clause-hierarchy : goal.returns-in-Ok-clause-hierarchy
returns-in-Ok-clause-hierarchy g c =
    rw c.in-Any.is (built_in_its_place c.args.graph.now c.args.hops.number c.args.given.now c.args.fresh.number c.in-Ok.hierarchy
    c.args.hops.in_range c.in-Ok.ensures.limits c.in-Ok.ensures.order c.in-Ok.ensures.kept)
