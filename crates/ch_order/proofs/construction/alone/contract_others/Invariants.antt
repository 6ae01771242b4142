-- The construction has made some steps by depth after the given nodes, and each turn contracts one more node.
use Rattle.std.proofs.Common.{◌≡◌, ◌-◌}
use Rattle.ch_order.specs.Construction.{IsSized, IsJudging, progress_of}
use Rattle.ch_order.proofs.StepsMade.{IsAfterSomeSteps}
use Rattle.ch_order.proofs.construction.alone.contract_others.Given as goal

abbrev pub invariant-loop-node : goal.invariant-loop-node
invariant-loop-node l = IsSized l.construction × (l.construction.remaining.nodes ≡ l.graph.nodes) × IsAfterSomeSteps l.keys l.graph
    l.hops.number l.given (progress_of l.construction) × IsJudging l.hops.number l.construction

abbrev pub decreases-loop-node : goal.decreases-loop-node
decreases-loop-node l = l.construction.remaining.nodes - l.construction.contracted
