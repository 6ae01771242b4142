-- The node's list loses the leg at the other node, and all other lists and those set aside stay as they are.
use Rattle.std.proofs.Common.{None, sym, ◌∙◌, ap, subst}
use Rattle.ch_hierarchy.specs.Rows.{IsRow}
use Rattle.ch_contract.specs.LegLists.{NodeLegs}
use Rattle.ch_contract.proofs.code.ListEdits.{list_within, list_row, edited_aside, edited_set}
use Rattle.ch_contract.proofs.leg_lists.LegLists.take.Goals as goal

pub take_leg-requires : goal.take_leg-requires
take_leg-requires c =
    let rows = ap (λ (m : NodeLegs). m.rows) c.self.view_is in
    record {
      list = list_within _ _ _ _ rows c.requires.node;
      row = subst IsRow (sym (list_row _ _ _ _ rows c.requires.node)) (c.requires.rows c.args.node);
    }

pub returns : goal.returns
returns c =
    let rows = ap (λ (m : NodeLegs). m.rows) c.self.view_is in
    record {
      legs = edited_set _ _ _ _ rows c.requires.node _ c.take_leg.ensures.edited c.args.other None c.requires.rows
          c.take_leg.ensures.row c.take_leg.ensures.legs;
      aside = edited_aside _ _ _ _ rows c.requires.node _ c.take_leg.ensures.edited ∙ ap (λ (m : NodeLegs). m.aside) c.self.view_is;
    }
