-- A light arc extends the light arcs before it, so past the last arc all are light.
use Rattle.std.proofs.Common.{◌≤◌, take, get_or, subst, All}
use Rattle.std.proofs.lemmas.List.{take_more, take_all}
use Rattle.std.proofs.lemmas.List.Elements.{All-push}
use Rattle.ch_contract.specs.declared.held_cost.TheConstants.{MOST_LIGHT}
use Rattle.ch_graph.specs.declared.arc.InArc.{InArc}
use Rattle.ch_contract.proofs.code.OpenLists.{no_arc}
use Rattle.ch_contract.proofs.remaining.light.are_light_arcs.Goals as goal

pub loop-arc-preserved : goal.loop-arc-preserved
loop-arc-preserved c =
    let arcs = c.args.arcs.now in
    let i = c.loop-arc.arc-index in
    rw (take_more arcs i no_arc c.loop-arc-test.true)
    (All-push (λ (a : InArc). a.weight ≤ MOST_LIGHT) (take i arcs) (get_or arcs i no_arc) c.loop-arc.invariant c.if-arc-gt-MOST_LIGHT.false)

pub returns : goal.returns
returns c light = subst (All (λ (a : InArc). a.weight ≤ MOST_LIGHT))
    (take_all c.loop-arc.arc-index c.args.arcs.now c.loop-arc-test.false) c.loop-arc.invariant
