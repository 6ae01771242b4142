-- There are no more names than hints, whose number fits.
use Rattle.std.proofs.Common.{arith}
use Rattle.ch_engine.proofs.SparseSets.{names_few}
use Rattle.ch_engine.proofs.slots.Slots.count.Goals as goal

pub overflow_cast-result : goal.overflow_cast-result
overflow_cast-result c =
    let v = c.self.invariant in
    let few = names_few c.self.inside.hints.items c.self.inside.names.items v in
    omega (arith, few, v.few, c.len.ensures)
