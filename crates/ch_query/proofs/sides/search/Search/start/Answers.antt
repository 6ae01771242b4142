-- A clean search into which the source is put has reached nothing else, and no legs were taken.
use Rattle.std.proofs.Common.{◌∙◌, ap, set, Some}
use Rattle.ch_graph.specs.Cost.{no_cost}
use Rattle.ch_query.proofs.one_side.Climbing.{climb_begins}
use Rattle.ch_query.proofs.sides.search.Search.start.Goals as goal

pub returns : goal.returns
returns c =
    let e = c.label.ensures in
    let at = c.rank.ensures.rank in
    λ side ancestors are.
    climb_begins c.args.hierarchy.now c.rank.ensures.levelled ancestors c.args.self.now c.label.new.self c.args.source
    c.requires.clean c.requires.source are.first
    (e.costs ∙ ap (λ r. set c.args.self.now.labels.costs r (Some no_cost)) at) e.queue
    (e.parents ∙ ap (λ r. set c.args.self.now.labels.parents r c.args.source) at) e.touched side
