-- The list has the node's shortcuts, and its length and the legs in both rows are the node's measure.
use Rattle.std.proofs.Common.{◌*◌, ◌≤◌, ◌^◌, length, ap, arith, subst}
use Rattle.std.proofs.Math.Nat.{mul-le-mul}
use Rattle.ch_graph.specs.declared.limits.TheConstants.{MOST_NODES}
use Rattle.ch_contract.specs.Contraction.{AreShortcuts, count_touching}
use Rattle.ch_contract.specs.Remaining.{legs_of}
use Rattle.ch_contract.specs.ShortcutLists.{AreUpTo}
use Rattle.ch_contract.proofs.theory.Counts.{rows_touching, touching_most, shortcuts_most}
use Rattle.ch_contract.proofs.code.Counted.{up_to_along, counted_up_to}
use Rattle.ch_contract.proofs.code.Touching.{are_touching, own_shortcuts}
use Rattle.ch_contract.proofs.remaining.Remaining.measure_in.Goals.{In_ok-fill}
use Rattle.ch_contract.proofs.remaining.Remaining.measure_in.Goals as goal

pub invariant_of-judging : goal.invariant_of-judging
invariant_of-judging g c = record {
  within = c.touching-touching.ensures.limits;
  light = c.requires.light;
  touches = are_touching (legs_of c.args.self.now) _ _ _ c.touching-touching.ensures.up c.touching-touching.ensures.down _ _
      c.touching-touching.ensures.limits c.requires.light;
}

-- the list has the shortcuts of the node, up to the bound
listed : (g : _) (c : In_ok-fill g) →
    AreUpTo c.args.most (AreShortcuts c.args.self.now.nodes c.args.hops.number (legs_of c.args.self.now) c.args.v) c.fill.new.list.items
listed g c =
    let t = c.touching-touching in
    let P = AreShortcuts c.args.self.now.nodes c.args.hops.number (legs_of c.args.self.now) in
    subst (λ v. AreUpTo c.args.most (P v) c.fill.new.list.items) t.ensures.node
    (up_to_along c.args.most _ (P t.result.node) c.fill.new.list.items
    (own_shortcuts (legs_of c.args.self.now) t.result.node t.result.up.now t.result.down.now t.ensures.up t.ensures.down _ _)
    c.in_ok-fill.ensures.list)

pub invariant_of-result : goal.invariant_of-result
invariant_of-result g c =
    let n = c.args.self.now.nodes in
    let L = legs_of c.args.self.now in
    let known = c.touching-touching.ensures in
    let t = c.touching-touching in
    let count = rows_touching n t.result.node L t.result.up.now t.result.down.now known.limits t.ensures.up t.ensures.down in
    let are = listed g (goal.at.invariant_of-result g c).In_ok-fill in
    let all = shortcuts_most n c.args.hops.number L c.args.v are.1 known.limits are.2 in
    let few : length c.fill.new.list.items ≤ n * n = omega (arith, all, are.3) in
    let square : n * n ≤ 2 ^ 50 = mul-le-mul {n₁ = n} {m₁ = n} {n₂ = MOST_NODES} {m₂ = MOST_NODES} known.count known.count in
    record { small = (omega (arith, few, square, c.len.ensures), omega (arith, count, touching_most n L t.result.node, known.count)) }

pub returns-clause-measure : goal.returns-clause-measure
returns-clause-measure g c =
    let t = c.touching-touching in
    let count = rows_touching c.args.self.now.nodes t.result.node (legs_of c.args.self.now) t.result.up.now t.result.down.now
    c.touching-touching.ensures.limits t.ensures.up t.ensures.down in
    let same = ap (count_touching c.args.self.now.nodes (legs_of c.args.self.now)) t.ensures.node in
    counted_up_to c.args.most c.args.self.now.nodes c.args.hops.number (legs_of c.args.self.now) c.args.v c.fill.new.list.items _ _
    (listed g (goal.at.returns-clause-measure g c).In_ok-fill) (omega arith) (omega arith)

pub returns-clause-list : goal.returns-clause-list
returns-clause-list g c = listed g (goal.at.returns-clause-list g c).In_ok-fill
