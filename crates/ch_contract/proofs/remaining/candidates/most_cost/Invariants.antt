-- No leg before the current one makes a candidate of a greater cost.
use Rattle.std.proofs.Common.{take}
use Rattle.ch_contract.specs.Candidates.{AreBounded}
use Rattle.ch_contract.proofs.remaining.candidates.most_cost.Given as goal

-- no leg so far makes a candidate of a greater cost
abbrev pub invariant-loop-second : goal.invariant-loop-second
invariant-loop-second l = AreBounded l.nodes l.first (take l.second-index l.up) l.most
