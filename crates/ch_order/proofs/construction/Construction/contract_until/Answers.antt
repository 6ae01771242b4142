-- A node of the queue is contracted after others are judged, and the construction is still under way.
use Rattle.std.proofs.Common.{ap, arith}
use Rattle.ch_order.proofs.QuickSteps.{ready_for, under_way_next, under_way_rekeyed, any_count}
use Rattle.ch_order.proofs.construction.Construction.contract_until.Goals as goal

pub take_next-requires : goal.take_next-requires
take_next-requires g c =
    let j = c.in_ok-judged.ensures in
    record { next = ready_for _ _ _ _ (under_way_rekeyed _ _ _ _ c.loop-least.invariant _ j.sizes j.nodes j.rekeyed j.ready) _ j.node }

pub loop-least-smaller : goal.loop-least-smaller
loop-least-smaller g c =
    let i = c.loop-least.invariant in
    let j = c.in_ok-judged.ensures in
    let t = c.in_ok-construction.ensures in
    omega (
      arith,
      i.nodes,
      any_count _ _ _ _ i.after _ c.in-Some.ensures,
      j.nodes,
      t.nodes,
      ap (λ p. p.contracted) j.rekeyed.rest,
      t.step.contracted,
    )

pub loop-least-preserved : goal.loop-least-preserved
loop-least-preserved g c =
    let j = c.in_ok-judged.ensures in
    under_way_next _ _ _ _ (under_way_rekeyed _ _ _ _ c.loop-least.invariant _ j.sizes j.nodes j.rekeyed j.ready) _ j.node _
    c.in_ok-construction.ensures
