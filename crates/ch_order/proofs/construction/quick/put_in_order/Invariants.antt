-- The nodes so far have keys, and the keys of the others stay.
use Rattle.std.proofs.Common.{take}
use Rattle.ch_order.specs.Quick.{HaveKeys}
use Rattle.ch_order.proofs.construction.quick.put_in_order.Given as goal

abbrev pub invariant-loop-place : goal.invariant-loop-place
invariant-loop-place l = HaveKeys (take l.place l.nodes) l.fn.waiting l.waiting
