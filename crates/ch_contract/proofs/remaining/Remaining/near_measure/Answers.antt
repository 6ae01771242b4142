-- Near neighbours have a shortcut for each two of them, so these are at most all shortcuts, and more than the bound.
use Rattle.std.proofs.Common.{◌≡◌, ◌*◌, ◌-◌, ◌≤◌, ◌^◌, ap, arith}
use Rattle.std.proofs.Math.Nat.{mul-le-mul}
use Rattle.ch_graph.specs.declared.limits.TheConstants.{MOST_NODES}
use Rattle.ch_contract.specs.Remaining.{legs_of}
use Rattle.ch_contract.proofs.code.Counted.{leads}
use Rattle.ch_contract.proofs.code.Near.{near_shortcuts}
use Rattle.ch_contract.proofs.theory.Counts.{shortcuts_most}
use Rattle.ch_contract.proofs.theory.ShortcutsListed.{shortcuts_listed}
use Rattle.ch_contract.proofs.remaining.Remaining.near_measure.Goals as goal

pub invariant_of-measure : goal.invariant_of-measure
invariant_of-measure c =
    let n = c.args.self.now.nodes in
    let L = legs_of c.args.self.now in
    let p = c.count_near-first.result in
    let q = c.count_near-second.result in
    let limits = c.pairs.ensures.limits in
    let count = c.pairs.ensures.count in
    let all = shortcuts_listed n 0 L c.args.v limits (leads n L limits) in
    let near = near_shortcuts n L c.args.v 0 p q all.0 c.count_near-first.ensures c.count_near-second.ensures all.1 in
    let most = shortcuts_most n 0 L c.args.v all.0 limits all.1 in
    let square : n * n ≤ 2 ^ 50 = mul-le-mul {n₁ = n} {m₁ = n} {n₂ = MOST_NODES} {m₂ = MOST_NODES} count count in
    let others : c.saturating_sub-others.result ≡ q - 1 = c.saturating_sub-others.ensures in
    let same : p * c.saturating_sub-others.result ≡ p * (q - 1) = ap (λ z. p * z) others in
    record { small = (omega (arith, same, near, most, square), omega (arith, c.count_touching-legs.ensures.small)) }

pub returns : goal.returns
returns c h =
    let n = c.args.self.now.nodes in
    let L = legs_of c.args.self.now in
    let p = c.count_near-first.result in
    let q = c.count_near-second.result in
    let limits = c.pairs.ensures.limits in
    let all = shortcuts_listed n h L c.args.v limits (leads n L limits) in
    let near = near_shortcuts n L c.args.v h p q all.0 c.count_near-first.ensures c.count_near-second.ensures all.1 in
    let others : c.saturating_sub-others.result ≡ q - 1 = c.saturating_sub-others.ensures in
    let same : p * c.saturating_sub-others.result ≡ p * (q - 1) = ap (λ z. p * z) others in (
      all.0,
      all.1,
      omega (arith, same, near),
      λ few. absurd (omega (arith, few, c.if-shortcuts-most.false)),
      c.count_touching-legs.ensures.count,
    )
