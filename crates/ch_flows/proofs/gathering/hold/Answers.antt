-- A branch gets more, or a source leaves it out.
use Rattle.std.proofs.Common.{arith}
use Rattle.ch_flows.proofs.HeldDemands.{held_at_source, held_more}
use Rattle.ch_flows.proofs.gathering.hold.Goals as goal

pub returns-in-Ok-clause-added : goal.returns-in-Ok-clause-added
returns-in-Ok-clause-added c = λ share.
    held_more share c.args.branches.now c.args.held.now c.add.new.flows c.args.place c.args.demand (c.in-Ok.ensures {u = tt}).added
    (omega (arith, c.requires.place, c.requires.held))

pub returns-in-None-clause-added : goal.returns-in-None-clause-added
returns-in-None-clause-added c = λ share.
    held_at_source share c.args.branches.now c.args.held.now c.add.new.flows c.args.place c.args.demand
    (c.in-Err.ensures {u = tt}).same c.in-None.is
