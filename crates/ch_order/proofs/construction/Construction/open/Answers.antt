-- A construction starts with the opening legs, depths of zero, and no priorities.
use Rattle.std.proofs.Common.{ℕ, None, ◌∙◌, ap, arith, length, replicate}
use Rattle.std.proofs.lemmas.List.{length-replicate}
use Rattle.ch_order.proofs.ConstructionCalls.{opened}
use Rattle.ch_order.proofs.construction.Construction.open.Goals as goal

pub returns-clause-begun : goal.returns-clause-begun
returns-clause-begun c =
    let first = c.in_ok-remaining.ensures in
    let nodes = c.nodes-nodes.ensures in
    opened c.args.graph.now c.in_ok-remaining.remaining c.in_ok-waiting.waiting c.in_ok-depths.depths.items
    c.in_ok-levels.levels.items first.legs first.nodes nodes.limits
    (c.in_ok-waiting.ensures ∙ ap (λ k. replicate k None) nodes.nodes)
    (c.in_ok-depths.ensures.items_if_clones_equal (λ y p. p) ∙ ap (λ k. replicate k 0) nodes.nodes)
    (ap length (c.in_ok-levels.ensures.items_if_clones_equal (λ y p. p)) ∙ length-replicate {A = ℕ} _ 0 ∙ nodes.nodes)

pub returns-clause-ready : goal.returns-clause-ready
returns-clause-ready c h = (c.new-room.ensures _ _ _, λ k d lt. absurd (omega (arith, ap length c.new-rooms.ensures.items, lt)))
