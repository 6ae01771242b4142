-- The label and the multiples that are written give the node this cost and this parent, and no other node a new one.
use Rattle.std.proofs.Common.{◌≡◌, ◌-◌, ◌/◌, length, get_or, sym, ◌∙◌, ap, arith}
use Rattle.std.proofs.lemmas.List.{set-get_or}
use Rattle.ch_query.specs.declared.sides.labels.TheConstants.{MANY}
use Rattle.ch_query.specs.Labels.{CostsAndParents}
use Rattle.ch_query.proofs.one_side.Labelled.{as_many, few_arcs, many_split, written, parents_set}
use Rattle.ch_query.proofs.sides.labels.Labels.set.Goals as goal
use Rattle.ch_query.proofs.sides.labels.Labels.set.Goals.{then-arcs-ge-MANY, else-arcs-ge-MANY}

pub index_mut-requires : goal.index_mut-requires
index_mut-requires c =
    let n = as_many _ _ _ c.self.invariant (ap (λ (q : CostsAndParents). q.costs) c.self.view_is) in
    let same = c.self.invariant in
    let ok = c.self.inside.multiples.ok in
    let within = c.requires.node in
    omega arith

pub index_mut-requires-2 : goal.index_mut-requires-2
index_mut-requires-2 c =
    let n = as_many _ _ _ c.self.invariant (ap (λ (q : CostsAndParents). q.costs) c.self.view_is) in
    let ok = c.if-arcs-ge-MANY.self-inside.labels.ok in
    let within = c.requires.node in
    elim c.if-arcs-ge-MANY.branch [
      | then-arcs-ge-MANY w ↦ (let e = ap (λ q. length q.labels.items) w.self-inside-is in omega arith)
      | else-arcs-ge-MANY w ↦ (let e = ap (λ q. length q.labels.items) w.self-inside-is in omega arith)
    ]

pub returns-clause-costs : goal.returns-clause-costs
returns-clause-costs c =
    let costs = ap (λ (q : CostsAndParents). q.costs) c.self.view_is in
    let arcs = c.args.cost.arcs in
    elim c.if-arcs-ge-MANY.branch [
      | then-arcs-ge-MANY w ↦ written _ _ _ c.self.invariant costs c.args.node _ arcs _ c.requires.weight _ _ (arcs / MANY - 1) _ _
          (ap (λ q. q.labels.items) w.self-inside-is) (ap (λ q. q.multiples.items) w.self-inside-is) w.arcs-is
          (many_split arcs w.if-arcs-ge-MANY.true)
      | else-arcs-ge-MANY w ↦ written _ _ _ c.self.invariant costs c.args.node _ arcs _ c.requires.weight _ _
          (get_or c.self.inside.multiples.items c.args.node 0) _ _
          (ap (λ q. q.labels.items) w.self-inside-is) (ap (λ q. q.multiples.items) w.self-inside-is
          ∙ sym (set-get_or c.self.inside.multiples.items c.args.node 0)) w.arcs-is
          (few_arcs arcs _ (omega (arith, w.if-arcs-ge-MANY.false)))
    ]

pub returns-clause-parents : goal.returns-clause-parents
returns-clause-parents c =
    let parents = ap (λ (q : CostsAndParents). q.parents) c.self.view_is in
    let labels : c.if-arcs-ge-MANY.self-inside.labels.items ≡ c.self.inside.labels.items = elim c.if-arcs-ge-MANY.branch [
      | then-arcs-ge-MANY w ↦ ap (λ q. q.labels.items) w.self-inside-is
      | else-arcs-ge-MANY w ↦ ap (λ q. q.labels.items) w.self-inside-is
    ] in
    parents_set _ _ _ _ _ labels parents
