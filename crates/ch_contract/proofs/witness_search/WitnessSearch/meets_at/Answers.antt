-- The leg and the known chain from its node have a sum that words can hold.
use Rattle.std.proofs.Common.{◌<◌, sym, ◌∙◌, ap, subst}
use Rattle.ch_contract.specs.HeldCosts.{IsKnownCost}
use Rattle.ch_contract.proofs.code.KnownViews.{known_cost_of}
use Rattle.ch_contract.proofs.witness_search.WitnessSearch.meets_at.Goals as goal

pub plus-requires-clause-known : goal.plus-requires-clause-known
plus-requires-clause-known g c =
    let cost = g.K.HeldCost.cost in
    let node = c.args.leg.node in
    subst (IsKnownCost g.K.HeldCost.limit)
    (known_cost_of cost c.args.self.now.known node c.index.result.now
    (subst (λ n. node < n) (sym c.requires.size) c.requires.leg.node) ∙ sym (ap cost c.index.ensures)) (c.requires.small node)
