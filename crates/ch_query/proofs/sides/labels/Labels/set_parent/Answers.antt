-- The node has the new parent, and all costs stay.
use Rattle.std.proofs.Common.{refl, ap, arith}
use Rattle.ch_query.specs.Labels.{CostsAndParents}
use Rattle.ch_query.proofs.one_side.Labelled.{as_many, as_many_parents, costs_stay, parents_set}
use Rattle.ch_query.proofs.sides.labels.Labels.set_parent.Goals as goal

pub returns-clause-costs : goal.returns-clause-costs
returns-clause-costs c =
    let costs = ap (λ (q : CostsAndParents). q.costs) c.self.view_is in
    let n = as_many _ _ _ c.self.invariant costs in
    let m = as_many_parents _ _ (ap (λ (q : CostsAndParents). q.parents) c.self.view_is) in
    let within = c.requires in
    costs_stay _ _ _ c.self.invariant costs _ _ _ (omega arith) c.index_mut.ensures.value

pub returns-clause-parents : goal.returns-clause-parents
returns-clause-parents c = parents_set _ _ _ _ _ refl (ap (λ (q : CostsAndParents). q.parents) c.self.view_is)
