-- Each arc that is no loop is put in on both sides, so in the end the legs are the lightest arcs of their pairs of nodes.
use Rattle.std.proofs.Common.{◌≤◌, sym, ◌∙◌, ap, subst}
use Rattle.std.specs.Prelude.{filter, All}
use Rattle.std.proofs.Common.{◌+◌, take}
use Rattle.ch_contract.specs.declared.held_cost.TheConstants.{MOST_LIGHT}
use Rattle.ch_contract.specs.Remaining.{legs_of}
use Rattle.ch_contract.specs.LegLists.{NodeLegs, legs_from}
use Rattle.ch_contract.proofs.theory.Opening.{joins}
use Rattle.ch_contract.proofs.code.LightLegs.{opened_light}
use Rattle.ch_contract.proofs.code.OpenLists.{AreOpenLists, no_arc, open_none, open_next, open_skips, open_all}
use Rattle.ch_contract.proofs.remaining.Remaining.open.Goals.{then-arc+in_ok-put_arc+in_ok-put_arc-2, else-arc}
use Rattle.ch_contract.proofs.remaining.Remaining.open.Goals as goal

pub loop-arc-init : goal.loop-arc-init
loop-arc-init c = (
  open_none c.nodes-nodes.result c.in_ok-outs.outs.rows c.in_ok-ins.ins.rows (ap (λ (m : NodeLegs). m.rows) c.in_ok-outs.ensures)
      (ap (λ (m : NodeLegs). m.rows) c.in_ok-ins.ensures),
  (ap (λ (m : NodeLegs). m.aside) c.in_ok-outs.ensures, ap (λ (m : NodeLegs). m.aside) c.in_ok-ins.ensures),
)

pub loop-arc-preserved : goal.loop-arc-preserved
loop-arc-preserved c =
    let n = c.nodes-nodes.result in
    let arcs = c.arcs-arc-items.result.now in
    let i = c.loop-arc.arc-index in
    let so_far = c.loop-arc.invariant in
    elim c.if-arc.branch [
      | then-arc+in_ok-put_arc+in_ok-put_arc-2 w ↦
          let outs = ap (λ (m : NodeLegs). m.aside) w.outs-is ∙ w.in_ok-put_arc.ensures.aside ∙ so_far.1.0 in
          let ins = ap (λ (m : NodeLegs). m.aside) w.ins-is ∙ w.in_ok-put_arc-2.ensures.aside ∙ so_far.1.1 in (
            subst (λ (z : NodeLegs). AreOpenLists n (filter joins (take (i + 1) arcs)) z.rows c.if-arc.ins.rows) (sym w.outs-is)
                (subst (λ (z : NodeLegs). AreOpenLists n (filter joins (take (i + 1) arcs)) w.put_arc.new.self.rows z.rows) (sym w.ins-is)
                (open_next n arcs i no_arc c.loop-arc.outs.rows c.loop-arc.ins.rows w.put_arc.new.self.rows
                w.put_arc-then-arc.new.self.rows c.loop-arc-test.true w.if-arc.true so_far.0 w.in_ok-put_arc.ensures.legs
                w.in_ok-put_arc-2.ensures.legs)),
            (outs, ins),
          )
      | else-arc w ↦
          let outs = ap (λ (m : NodeLegs). m.aside) w.outs-is ∙ so_far.1.0 in
          let ins = ap (λ (m : NodeLegs). m.aside) w.ins-is ∙ so_far.1.1 in (
            subst (λ (z : NodeLegs). AreOpenLists n (filter joins (take (i + 1) arcs)) z.rows c.if-arc.ins.rows) (sym w.outs-is)
                (subst (λ (z : NodeLegs). AreOpenLists n (filter joins (take (i + 1) arcs)) c.loop-arc.outs.rows z.rows) (sym w.ins-is)
                (open_skips n arcs i no_arc c.loop-arc.outs.rows c.loop-arc.ins.rows c.loop-arc-test.true w.if-arc.false so_far.0)),
            (outs, ins),
          )
    ]

pub invariant_of-result : goal.invariant_of-result
invariant_of-result c =
    let opened = open_all c.args.graph.now c.nodes-nodes.result c.arcs-arc-items.result.now c.loop-arc.arc-index
    c.loop-arc.outs.rows c.loop-arc.ins.rows c.arcs-arc-items.ensures.limits c.nodes-nodes.ensures.nodes c.arcs-arc-items.ensures.arcs
    c.loop-arc-test.false c.loop-arc.invariant.0 in (
      opened.0,
      λ light. opened_light MOST_LIGHT c.args.graph.now (legs_from c.loop-arc.outs.rows)
          (subst (All (λ a. a.weight ≤ MOST_LIGHT)) c.arcs-2.ensures.arcs (c.are_light_arcs.ensures light)) opened.1,
    )

pub returns-clause-legs : goal.returns-clause-legs
unfolding legs_of
returns-clause-legs c =
    (open_all c.args.graph.now c.nodes-nodes.result c.arcs-arc-items.result.now c.loop-arc.arc-index c.loop-arc.outs.rows
    c.loop-arc.ins.rows c.arcs-arc-items.ensures.limits c.nodes-nodes.ensures.nodes c.arcs-arc-items.ensures.arcs
    c.loop-arc-test.false c.loop-arc.invariant.0).1
