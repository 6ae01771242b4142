-- The least sum of the weights of a node in two search spaces is the distance, and without a sum there is no walk.
use Rattle.ch_query.proofs.two_sides.SharedSums.{ranked_spaces_give_distance}
use Rattle.ch_query.proofs.laws.search_spaces_give_distances.Goals as goal

pub returns : goal.returns
returns c H limit s t ups downs answer k up down least = ranked_spaces_give_distance H k limit s t ups downs up down answer least
