-- One more shortcut overrides the leg between its ends, so in the end all shortcuts are put in at this end.
use Rattle.std.proofs.Common.{Some, arith, get_or, refl, ◌∙◌, subst}
use Rattle.ch_hierarchy.specs.declared.leg.Leg.{Leg}
use Rattle.ch_contract.specs.Contraction.{shortcut_label}
use Rattle.ch_contract.specs.LegRows.{label_of}
use Rattle.ch_contract.specs.LegLists.{IsSet, end_of, legs_at}
use Rattle.ch_contract.proofs.code.ListEdits.{overridden_none, overridden_at, no_shortcut}
use Rattle.ch_contract.proofs.leg_lists.LegLists.put_at.Goals as goal

pub loop-shortcut-init : goal.loop-shortcut-init
loop-shortcut-init c = (overridden_none (legs_at c.args.end) c.args.v c.args.self.now.rows c.requires.rows, refl)

pub put-requires : goal.put-requires
put-requires c =
    let inside = c.requires.ends c.loop-shortcut.shortcut-index no_shortcut c.loop-shortcut-test.true in
    record {
      node = omega (arith, inside, c.nodes_of-node.ensures.0, c.loop-shortcut.invariant.0.size);
      rows =
          c.loop-shortcut.invariant.0.rows;
    }

pub loop-shortcut-preserved : goal.loop-shortcut-preserved
loop-shortcut-preserved c =
    let list = c.args.shortcuts.now in
    let i = c.loop-shortcut.shortcut-index in
    let s = get_or list i no_shortcut in
    let end = c.args.end in
    let ends = c.nodes_of-node.ensures in
    let made = subst (λ (l : Leg). IsSet c.nodes_of-node.result.0 l.node (Some (label_of l)) c.loop-shortcut.self.rows
    c.put.new.self.rows) c.leg_of.ensures c.in_ok-put.ensures.legs in
    let here = subst (λ x. IsSet x c.nodes_of-node.result.1 (Some (shortcut_label c.args.v s)) c.loop-shortcut.self.rows
    c.put.new.self.rows) ends.0 made in
    let set = subst (λ x. IsSet (end_of end s) x (Some (shortcut_label c.args.v s)) c.loop-shortcut.self.rows c.put.new.self.rows)
    ends.1 here in (
      overridden_at end c.args.v list i no_shortcut c.args.self.now.rows c.loop-shortcut.self.rows c.put.new.self.rows
          c.loop-shortcut-test.true c.requires.ordered c.loop-shortcut.invariant.0 set,
      c.in_ok-put.ensures.aside ∙ c.loop-shortcut.invariant.1,
    )
