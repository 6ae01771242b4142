-- The construction is under way.
use Rattle.std.proofs.Common.{[]}
use Rattle.ch_order.specs.Quick.{IsUnderWay}
use Rattle.ch_order.proofs.construction.quick.build_quickly_alone.Given as goal

abbrev pub invariant-loop : goal.invariant-loop
invariant-loop l = IsUnderWay l.graph l.hops.number [] l.construction
