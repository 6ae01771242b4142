-- One more leg from the node adds its shortcut exactly if the sum keeps the limits and has no witness.
use Rattle.ch_contract.specs.Candidates.{IsCandidate}
use Rattle.std.proofs.Common.{◌≤◌, arith, All, ◌+◌, get_or, sym, ◌∙◌, ap, subst}
use Rattle.ch_graph.specs.declared.limits.TheConstants.{MOST_NODES}
use Rattle.ch_contract.specs.Remaining.{legs_of}
use Rattle.ch_contract.specs.ShortcutLists.{legs_touching, AreShortcutsBefore}
use Rattle.ch_contract.proofs.theory.RowLemmas.{leg_from_at}
use Rattle.ch_hierarchy.proofs.theory.NoLeg.{no_leg}
use Rattle.ch_contract.proofs.code.ShortcutLemmas.{boundary_next, before_next_up, before_end_up, before_push, before_skip}
use Rattle.ch_contract.proofs.code.Candidates.{up_light, bound_held, before_no_candidate}
use Rattle.ch_contract.proofs.remaining.judging.Judging.push.Goals.{in-Some-shortcut+in_ok-push, in_default-shortcut}
use Rattle.ch_contract.proofs.remaining.judging.Judging.push.Goals as goal

pub reach-requires-clause-end : goal.reach-requires-clause-end
reach-requires-clause-end g c =
    let t = c.args.self.now.touching in
    let ends = (c.args.self.now.touches.within _ _ _ c.requires.first).ends in
    (ends.0, ends.2)

pub shortcut-requires-clause-first : goal.shortcut-requires-clause-first
shortcut-requires-clause-first g c =
    (c.args.self.now.touches.within _ _ _ c.requires.first, c.args.self.now.touches.light _ _ _ c.requires.first)

pub shortcut-requires-clause-second : goal.shortcut-requires-clause-second
shortcut-requires-clause-second g c =
    let t = c.args.self.now.touching in
    let leg = leg_from_at (legs_touching t.node t.up.now t.down.now) t.node t.up.now _ no_leg c.args.self.now.touches.from
    c.loop-second-test.true in
    (c.args.self.now.touches.within _ _ _ leg, c.args.self.now.touches.light _ _ _ leg)

pub loop-second-preserved : goal.loop-second-preserved
loop-second-preserved g c =
    let n = c.args.self.now.remaining.now.nodes in
    let v = c.args.self.now.touching.node in
    let up = c.args.self.now.touching.up.now in
    let L = legs_touching v up c.args.self.now.touching.down.now in
    let W = legs_of c.args.self.now.remaining.now in
    let row = c.args.self.now.touches.from in
    let i = c.loop-second.second-index in
    let so_far = c.loop-second.invariant in
    let to = (get_or up i no_leg).node in
    let second = leg_from_at L v up i no_leg row c.loop-second-test.true in
    let next : AreShortcutsBefore n c.args.self.now.hops.number L W v c.args.first.node to c.loop-second.list.items =
    before_next_up n c.args.self.now.hops.number L W v c.args.first.node so_far.0 i no_leg up c.loop-second.list.items row so_far.1
    c.loop-second-test.true so_far.2 in (
      to + 1,
      boundary_next up i no_leg row.0 c.loop-second-test.true,
      elim c.match-shortcut.branch [
        | in-Some-shortcut+in_ok-push w ↦
            let is = (rw w.in-Some-shortcut.is at c.shortcut.ensures) L c.requires.first second in
            subst (AreShortcutsBefore n c.args.self.now.hops.number L W v c.args.first.node (to + 1))
            (sym (ap (λ v. v.items) w.list-is ∙ w.in_ok-push.ensures.items))
            (before_push n c.args.self.now.hops.number L W v c.args.first.node to c.loop-second.list.items w.in-Some-shortcut.shortcut next
            is.0 is.1 is.2)
        | in_default-shortcut w ↦
            let is = (rw w.in_default-shortcut.is at c.shortcut.ensures) L c.requires.first second in
            rw w.list-is (before_skip n c.args.self.now.hops.number L W v c.args.first.node to c.loop-second.list.items next is)
      ],
    )

pub returns-clause-list : goal.returns-clause-list
returns-clause-list g c =
    let so_far = c.loop-second.invariant in
    before_end_up _ _ _ _ _ c.args.first.node so_far.0 c.loop-second.second-index c.args.self.now.touching.up.now
    c.loop-second.list.items c.args.self.now.touches.from so_far.1 c.loop-second-test.false so_far.2

pub most_cost-requires-clause-first : goal.most_cost-requires-clause-first
most_cost-requires-clause-first g c =
    let is = c.args.self.now.touches.within _ _ _ c.requires.first in
    let count = c.nodes-nodes.ensures.count in
    (is.weight, omega (arith, is.arcs))

pub most_cost-requires-clause-up : goal.most_cost-requires-clause-up
most_cost-requires-clause-up g c =
    let t = c.args.self.now.touching in
    up_light c.args.self.now.remaining.now.nodes (legs_touching t.node t.up.now t.down.now) t.node t.up.now
    c.args.self.now.touches.within c.nodes-nodes.ensures.count c.args.self.now.touches.from

pub returns-in_default-clause-list : goal.returns-in_default-clause-list
returns-in_default-clause-list g c =
    let t = c.args.self.now.touching in
    let none = rw c.in_default.is at c.most_cost.ensures in
    before_no_candidate c.args.self.now.remaining.now.nodes c.args.self.now.hops.number (legs_touching t.node t.up.now t.down.now)
    (legs_of c.args.self.now.remaining.now) t.node c.args.first t.up.now c.args.list.now.items c.requires.first
    c.args.self.now.touches.from
    (subst (λ n. All (λ l. IsCandidate n c.args.first l → ⊥) t.up.now) c.nodes-nodes.ensures.nodes none) c.requires.list

pub reach-requires-clause-most : goal.reach-requires-clause-most
reach-requires-clause-most g c =
    let t = c.args.self.now.touching in
    let small : c.nodes-nodes.result ≤ MOST_NODES = omega (arith, c.nodes-nodes.ensures.nodes, c.nodes-nodes.ensures.count) in
    bound_held g.K.HeldCost.limit c.nodes-nodes.result t.node (legs_touching t.node t.up.now t.down.now) c.args.first t.up.now
    c.in-Some.most small c.args.self.now.touches.light c.requires.first c.args.self.now.touches.from c.in-Some.ensures

pub shortcut-requires-clause-held : goal.shortcut-requires-clause-held
shortcut-requires-clause-held g c =
    let t = c.args.self.now.touching in
    let small : c.nodes-nodes.result ≤ MOST_NODES = omega (arith, c.nodes-nodes.ensures.nodes, c.nodes-nodes.ensures.count) in
    bound_held g.K.HeldCost.limit c.nodes-nodes.result t.node (legs_touching t.node t.up.now t.down.now) c.args.first t.up.now
    c.in-Some.most small c.args.self.now.touches.light c.requires.first c.args.self.now.touches.from c.in-Some.ensures
