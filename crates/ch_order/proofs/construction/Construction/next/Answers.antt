-- The least entry of the queue is the node that is contracted next.
use Rattle.ch_order.proofs.ConstructionCalls.{is_next}
use Rattle.ch_order.proofs.construction.Construction.next.Goals as goal

pub returns : goal.returns
returns c = is_next _ (c.in_ok-node.field-0-0, c.in_ok-node.node) c.in_ok-node.ensures
