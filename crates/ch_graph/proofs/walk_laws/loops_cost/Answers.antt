-- A walk costs less without the arcs between two visits of a node.
use Rattle.ch_graph.proofs.WalkCosts.{loop_out}
use Rattle.ch_graph.proofs.walk_laws.loops_cost.Goals as goal

pub returns : goal.returns
returns c = loop_out
