-- Walks can be joined and cut at each place, and their costs add up.
use Rattle.ch_graph.proofs.WalkLemmas.{walk_append}
use Rattle.ch_graph.proofs.WalkCosts.{walk_split, cost_of-append}
use Rattle.ch_graph.proofs.walk_laws.walks_add_up.Goals as goal

pub returns : goal.returns
returns c g = record { joined = walk_append g; parted = walk_split g; costs = cost_of-append }
