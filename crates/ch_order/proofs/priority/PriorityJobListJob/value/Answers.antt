-- A workspace that has forgotten all shortcuts is ready to judge the node.
use Rattle.ch_contract.specs.Remaining.{legs_of}
use Rattle.ch_order.proofs.priority.PriorityJobListJob.value.Goals as goal

pub priority-requires-clause-ready : goal.priority-requires-clause-ready
priority-requires-clause-ready c =
    c.forget.ensures c.args.self.now.remaining.now.nodes c.args.self.now.hops.number (legs_of c.args.self.now.remaining.now)
    c.requires.clean
