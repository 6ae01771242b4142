-- The values of all lists together are at most as many as the values of the array.
use Rattle.std.proofs.Common.{arith}
use Rattle.ch_lists.proofs.Taken.{values_fit}
use Rattle.ch_lists.proofs.lists.Lists.room.Goals as goal

pub returns-clause-holds : goal.returns-clause-holds
returns-clause-holds g c =
    let fit = values_fit c.self.inside.values.items c.self.inside.places.items c.args.self.now c.self.invariant c.self.view_is in
    omega (arith, c.len.ensures)
