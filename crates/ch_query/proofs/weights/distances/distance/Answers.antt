-- The least weight of going up and then down is the distance.
use Rattle.ch_query.proofs.two_sides.Distances.{weight_is_distance}
use Rattle.ch_query.proofs.weights.distances.distance.Goals as goal

pub returns-clause-distance : goal.returns-clause-distance
returns-clause-distance c =
    weight_is_distance c.args.hierarchy.now c.args.start c.args.end c.least_weight.result c.least_weight.ensures.least
