-- The construction is under way.
use Rattle.std.proofs.Common.{◌-◌}
use Rattle.ch_order.specs.Quick.{IsUnderWay}
use Rattle.ch_order.proofs.construction.Construction.contract_until.Given as goal

abbrev pub invariant-loop-least : goal.invariant-loop-least
invariant-loop-least g l = IsUnderWay l.graph l.hops.number l.given l.construction

abbrev pub decreases-loop-least : goal.decreases-loop-least
decreases-loop-least g l = l.construction.remaining.nodes - l.construction.contracted
