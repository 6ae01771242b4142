-- The list at a node's number has the legs of the node.
use Rattle.std.proofs.Common.{ap, ◌∙◌}
use Rattle.ch_contract.specs.LegLists.{NodeLegs}
use Rattle.ch_contract.proofs.code.ListEdits.{list_within, list_row}
use Rattle.ch_contract.proofs.leg_lists.LegLists.at.Goals as goal

pub at-requires : goal.at-requires
at-requires c = list_within _ _ _ _ (ap (λ (m : NodeLegs). m.rows) c.self.view_is) c.requires

pub returns : goal.returns
returns c = c.at.ensures ∙ list_row _ _ _ _ (ap (λ (m : NodeLegs). m.rows) c.self.view_is) c.requires
