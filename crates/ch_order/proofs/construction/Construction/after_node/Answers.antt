-- A node of the queue can be contracted, and then the construction is still under way.
use Rattle.std.proofs.Common.{refl}
use Rattle.ch_order.proofs.QuickSteps.{ready_for, under_way_next}
use Rattle.ch_order.proofs.construction.Construction.after_node.Goals as goal

pub take_directly-requires : goal.take_directly-requires
take_directly-requires c = record { next = ready_for _ _ _ _ c.requires.under_way _ (c.if-not-is_in_chain.ensures refl) }

pub returns : goal.returns
returns c = under_way_next _ _ _ _ c.requires.under_way _ (c.if-not-is_in_chain.ensures refl) _ c.in_ok-taken.ensures
