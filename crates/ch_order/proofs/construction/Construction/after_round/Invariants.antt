-- The construction is under way.
use Rattle.ch_order.specs.Quick.{IsUnderWay}
use Rattle.ch_order.proofs.construction.Construction.after_round.Given as goal

abbrev pub invariant-loop-node : goal.invariant-loop-node
invariant-loop-node g l = IsUnderWay l.graph l.hops.number l.given l.construction
