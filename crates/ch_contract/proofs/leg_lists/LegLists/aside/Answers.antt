-- The list that is read behind those of the nodes has the legs that were set aside for the node.
use Rattle.std.proofs.Common.{[], length, sym, ap, ◌∙◌, arith}
use Rattle.std.proofs.lemmas.List.{get_or-drop, length-take}
use Rattle.ch_hierarchy.specs.Rows.{row}
use Rattle.ch_contract.specs.LegLists.{NodeLegs}
use Rattle.ch_contract.proofs.leg_lists.LegLists.aside.Goals as goal

pub at-requires : goal.at-requires
at-requires c =
    let rows = ap (λ (m : NodeLegs). m.rows) c.self.view_is in
    let size = c.self.invariant.0 in
    omega (arith, ap length rows, length-take c.self.inside.nodes c.self.inside.lists, c.requires)

pub returns : goal.returns
returns c =
    c.at.ensures ∙ sym (get_or-drop c.self.inside.nodes c.self.inside.lists c.args.node [])
    ∙ ap (λ (m : NodeLegs). row m.aside c.args.node) c.self.view_is
