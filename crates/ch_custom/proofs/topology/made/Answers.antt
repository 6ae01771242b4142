-- Rows that are handed on are a topology.
use Rattle.std.proofs.Common.{arith}
use Rattle.ch_custom.proofs.theory.Growing.{topology_made}
use Rattle.ch_custom.proofs.topology.made.Goals as goal

pub returns-clause-topology : goal.returns-clause-topology
returns-clause-topology c =
    topology_made c.args._graph.now c.args.order.items c.args.levels.items c.args._graph.now.nodes c.args.rows c.requires.handed
    (omega arith)
