-- Each capacity gets a place with an empty list.
use Rattle.ch_lists.proofs.Placed.{empty_lists}
use Rattle.ch_lists.proofs.lists.Lists.with_rooms.Goals as goal

pub returns : goal.returns
returns g c = empty_lists _ _ _ _ c.in_ok-places.ensures
