-- The leg in front of the chain costs their sum, which counts only if it avoids the node and is within the bound.
use Rattle.std.proofs.Common.{◌∙◌, ap, subst, sym}
use Rattle.std.specs.Prelude.{IsTrue, nat_eq}
use Rattle.std.proofs.Math.Bool.{not, ◌&&◌}
use Rattle.std.proofs.lemmas.Bool.{and_parts, and_from, not-true, eqb-false, ne_eqb}
use Rattle.ch_graph.specs.Cost.{IsAtMost, cost_sum}
use Rattle.ch_contract.specs.KnownCosts.{Lowers, IsOnlyWhere, known_of, chain_start_of}
use Rattle.ch_contract.proofs.code.Lowering.{leg_where}
use Rattle.ch_contract.proofs.known_costs.KnownCosts.spread_leg.Goals as goal

pub returns-clause-lowers : goal.returns-clause-lowers
returns-clause-lowers g c =
    let cost = g.K.HeldCost.cost in
    let leg = c.args.leg in
    let step = chain_start_of cost c.args.step in
    let wanted = c.args.wanted in
    let old = known_of cost c.args.self.now in
    let new = known_of cost c.lower.new.self in
    let sum = c.plus-cost.ensures ∙ ap (λ z. cost_sum z step.cost) c.of.ensures in
    let within = λ (t : IsTrue c.is_at_most.result). subst (λ z. IsAtMost z wanted.most) sum
    (subst (IsAtMost (cost c.plus-cost.result)) c.of-2.ensures (c.is_at_most.ensures.0 t)) in
    let kept = λ (le : IsAtMost (cost_sum leg.cost step.cost) wanted.most).
    c.is_at_most.ensures.1 (subst (IsAtMost (cost c.plus-cost.result)) (sym c.of-2.ensures)
    (subst (λ z. IsAtMost z wanted.most) (sym sum) le)) in
    let is_wanted = c.is_at_most.result && not (nat_eq leg.node wanted.avoided) in
    leg_where leg step wanted is_wanted old new (
      (λ t. let both = and_parts c.is_at_most.result _ t in (within both.0, eqb-false leg.node wanted.avoided (not-true _ both.1))),
      (λ m. and_from c.is_at_most.result _ (kept m.0) (ap not (ne_eqb leg.node wanted.avoided m.1))),
    ) (subst (λ z. Lowers (IsOnlyWhere is_wanted leg.node z) old new) sum c.lower.ensures.lowers)
