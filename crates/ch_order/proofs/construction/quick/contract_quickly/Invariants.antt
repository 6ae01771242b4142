-- The construction is under way.
use Rattle.ch_order.specs.Quick.{IsUnderWay}
use Rattle.ch_order.proofs.construction.quick.contract_quickly.Given as goal

abbrev pub invariant-loop : goal.invariant-loop
invariant-loop g l = IsUnderWay l.graph l.hops.number l.given l.construction
