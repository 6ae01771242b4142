-- Of the legs before the current one, at least so many come from near nodes.
use Rattle.ch_contract.specs.Near.{seen_from}
use Rattle.ch_contract.specs.Remaining.{legs_of}
use Rattle.ch_contract.proofs.code.Near.{IsCounted}
use Rattle.ch_contract.proofs.remaining.Remaining.count_near.Given as goal

abbrev pub invariant-loop-leg : goal.invariant-loop-leg
invariant-loop-leg s = IsCounted s.self.nodes (seen_from s.end (legs_of s.self)) s.v s.legs s.leg-index s.count
