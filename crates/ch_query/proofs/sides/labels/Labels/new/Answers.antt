-- New labels give no node a cost, and each node the parent zero.
use Rattle.std.proofs.Common.{rules, ◌≡◌, replicate, map, refl, ap, ◌∙◌}
use Rattle.std.specs.List.{zip}
use Rattle.ch_query.specs.declared.sides.labels.Label.{Label}
use Rattle.ch_query.specs.declared.sides.labels.TheConstants.{NO_WEIGHT}
use Rattle.ch_query.specs.Labels.{cost_of}
use Rattle.ch_query.proofs.one_side.Labelled.{parents_of, same_parents, none_reached}
use Rattle.ch_query.proofs.sides.labels.Labels.new.Goals as goal

-- the label of a node that is not reached
abbrev unreached : Label
unreached = record { weight = NO_WEIGHT; arcs = 0; parent = 0 }

pub returns : goal.returns
returns c =
    let labels : c.in_ok-labels.labels.items ≡ replicate c.args.nodes unreached = search rules in
    let multiples : c.in_ok-multiples.multiples.items ≡ replicate c.args.nodes 0 = search rules in
    let costs = (λ i. map cost_of (zip (labels i) (multiples i))) ∙ none_reached unreached c.args.nodes refl in
    let parents = ap parents_of labels ∙ same_parents unreached c.args.nodes in
    λ i. record { costs = costs i; parents = parents i }
