-- Once no key of two searches by weights is below their least sum, it is the least weight.
use Rattle.ch_query.proofs.two_sides.WeighedSearches.{weights_are_enough}
use Rattle.ch_query.proofs.laws.weights_are_enough.Goals as goal

pub returns : goal.returns
returns c = weights_are_enough
