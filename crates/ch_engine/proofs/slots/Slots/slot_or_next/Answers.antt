-- The slot that was found is the number's, and the number of names fits.
use Rattle.std.proofs.Common.{arith}
use Rattle.ch_engine.proofs.SparseSets.{names_few}
use Rattle.ch_engine.proofs.slots.Slots.slot_or_next.Goals as goal

pub returns-in-Some-clause-slot : goal.returns-in-Some-clause-slot
returns-in-Some-clause-slot c = (c.slot.ensures c.in-Some.slot).1 c.in-Some.is

pub overflow_cast-next : goal.overflow_cast-next
overflow_cast-next c =
    let v = c.self.invariant in
    let few = names_few c.self.inside.hints.items c.self.inside.names.items v in
    omega (arith, few, v.few, c.len-next.ensures)
