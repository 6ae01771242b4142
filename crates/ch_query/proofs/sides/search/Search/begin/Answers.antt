-- A clean search into which the source is put is underway, and has reached nothing else.
use Rattle.std.proofs.Common.{◌∙◌, ap, set, Some}
use Rattle.ch_graph.specs.Cost.{no_cost, cost_at}
use Rattle.ch_query.proofs.one_side.Touched.{none_unless}
use Rattle.ch_query.proofs.one_side.Beginning.{begun_underway, begun_fresh}
use Rattle.ch_query.proofs.sides.search.Search.begin.Goals as goal

pub reach-requires-clause-unkeyed : goal.reach-requires-clause-unkeyed
reach-requires-clause-unkeyed c _ = none_unless (cost_at c.args.self.now.queue c.rank.result) (c.requires.clean.queue c.rank.result)

pub returns-clause-underway : goal.returns-clause-underway
returns-clause-underway c =
    let e = c.reach.ensures in
    let at = c.rank.ensures.rank in
    λ question source most.
    begun_underway c.args.hierarchy.now c.rank.ensures.levelled c.args.self.now c.reach.new.self c.args.source c.requires.clean
    c.requires.source
    (e.costs ∙ ap (λ r. set c.args.self.now.labels.costs r (Some no_cost)) at)
    (e.queue ∙ ap (λ r. set c.args.self.now.queue r (Some no_cost)) at)
    (e.parents ∙ ap (λ r. set c.args.self.now.labels.parents r c.args.source) at) e.touched question source most

pub returns-clause-fresh : goal.returns-clause-fresh
returns-clause-fresh c =
    let e = c.reach.ensures in
    let at = c.rank.ensures.rank in
    begun_fresh c.args.hierarchy.now c.rank.ensures.levelled c.args.self.now c.reach.new.self c.args.source c.requires.clean
    c.requires.source
    (e.costs ∙ ap (λ r. set c.args.self.now.labels.costs r (Some no_cost)) at)
    (e.queue ∙ ap (λ r. set c.args.self.now.queue r (Some no_cost)) at)
    (e.parents ∙ ap (λ r. set c.args.self.now.labels.parents r c.args.source) at) e.touched
