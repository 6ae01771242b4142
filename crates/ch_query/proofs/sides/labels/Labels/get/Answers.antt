-- The weight and the arcs of a label, with the multiples of its node if it has many arcs, are its cost.
use Rattle.std.proofs.Common.{ap, arith, sym, ◌∙◌, ◌+◌, ◌*◌, ℕ, get_or}
use Rattle.std.proofs.lemmas.List.{get_or_default}
use Rattle.ch_query.specs.declared.sides.labels.TheConstants.{MANY}
use Rattle.ch_query.specs.Labels.{CostsAndParents}
use Rattle.ch_query.proofs.one_side.Labelled.{as_many, few_arcs, many_arcs, reached_label, no_label, label_read}
use Rattle.ch_query.proofs.sides.labels.Labels.get.Goals as goal

pub index-label-requires : goal.index-label-requires
index-label-requires c =
    let n = as_many _ _ _ c.self.invariant (ap (λ (q : CostsAndParents). q.costs) c.self.view_is) in
    let ok = c.self.inside.labels.ok in
    let within = c.requires in
    omega arith

pub index-requires : goal.index-requires
index-requires c =
    let n = as_many _ _ _ c.self.invariant (ap (λ (q : CostsAndParents). q.costs) c.self.view_is) in
    let same = c.self.invariant in
    let ok = c.self.inside.multiples.ok in
    let within = c.requires in
    omega arith

pub returns-then-label : goal.returns-then-label
returns-then-label c =
    sym (no_label c.index-label.result.now (get_or c.self.inside.multiples.items c.args.node 0) c.if-label.true) ∙ label_read _ _ _
    c.self.invariant (ap (λ (q : CostsAndParents). q.costs) c.self.view_is) _ _ c.requires c.index-label.ensures

pub returns-then-arcs-lt-MANY : goal.returns-then-arcs-lt-MANY
returns-then-arcs-lt-MANY c =
    sym (reached_label c.index-label.result.now (get_or c.self.inside.multiples.items c.args.node 0) _ c.if-label.false
    (few_arcs _ _ c.if-arcs-lt-MANY.true))
    ∙ label_read _ _ _ c.self.invariant (ap (λ (q : CostsAndParents). q.costs) c.self.view_is) _ _ c.requires c.index-label.ensures

pub returns : goal.returns
returns c =
    let costs = ap (λ (q : CostsAndParents). q.costs) c.self.view_is in
    let n = as_many _ _ _ c.self.invariant costs in
    let same = c.self.invariant in
    let within = c.requires in
    let multiples = c.self.inside.multiples.items in
    let multiple = sym (get_or_default multiples c.args.node c.index.result.now 0 (omega arith)) ∙ sym c.index.ensures in
    let arcs = c.index-label.result.now.arcs in
    sym (reached_label c.index-label.result.now (get_or multiples c.args.node 0) _ c.if-label.false
    (many_arcs _ _ (omega (arith, c.if-arcs-lt-MANY.false)) ∙ ap (λ (m : ℕ). arcs + m * MANY) multiple))
    ∙ label_read _ _ _ c.self.invariant costs _ _ c.requires c.index-label.ensures
