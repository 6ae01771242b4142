-- The legs keep the limits of a graph with this number of nodes.
use Rattle.std.proofs.Common.{subst}
use Rattle.ch_contract.specs.Legs.{AreLegsWithin}
use Rattle.ch_contract.specs.Remaining.{legs_of}
use Rattle.ch_contract.specs.LegLists.{legs_from}
use Rattle.ch_contract.proofs.remaining.Remaining.nodes.Goals as goal

pub returns-clause-limits : goal.returns-clause-limits
unfolding legs_of
returns-clause-limits c = subst (λ m. AreLegsWithin m.nodes (legs_from m.rows)) c.self.view_is c.self.invariant.0.legs
