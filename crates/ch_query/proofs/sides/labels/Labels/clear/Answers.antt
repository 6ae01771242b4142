-- A node whose weight is that of none has no cost, and all other costs and all parents stay.
use Rattle.std.proofs.Common.{refl, ◌∙◌, ap, arith, get_or}
use Rattle.std.proofs.Math.Seq.{map-set_same}
use Rattle.ch_query.specs.declared.sides.labels.Label.{Label}
use Rattle.ch_query.specs.declared.sides.labels.TheConstants.{NO_WEIGHT}
use Rattle.ch_query.specs.Labels.{CostsAndParents}
use Rattle.ch_query.proofs.one_side.Labelled.{as_many, label_set_alone, no_label}
use Rattle.ch_query.proofs.sides.labels.Labels.clear.Goals as goal

-- the label after its weight was removed
abbrev unreached : Label → Label
unreached l = record { weight = NO_WEIGHT; arcs = l.arcs; parent = l.parent }

pub index_mut-requires : goal.index_mut-requires
index_mut-requires c =
    let n = as_many _ _ _ c.self.invariant (ap (λ (q : CostsAndParents). q.costs) c.self.view_is) in
    let ok = c.self.inside.labels.ok in
    let within = c.requires in
    omega arith

pub returns-clause-costs : goal.returns-clause-costs
returns-clause-costs c = label_set_alone _ _ _ c.self.invariant (ap (λ (q : CostsAndParents). q.costs) c.self.view_is) _ _ _
    (no_label (unreached c.index_mut.result.now) (get_or c.self.inside.multiples.items c.args.node 0) refl)

pub returns-clause-parents : goal.returns-clause-parents
returns-clause-parents c =
    map-set_same (λ (k : Label). k.parent) c.self.inside.labels.items c.args.node _ c.index_mut.result.now
    (ap (λ (k : Label). k.parent) c.index_mut.ensures.value)
    ∙ ap (λ (q : CostsAndParents). q.parents) c.self.view_is
