-- The arcs before the current one are light enough for searches over words.
use Rattle.std.proofs.Common.{◌≤◌, All, take}
use Rattle.ch_contract.specs.declared.held_cost.TheConstants.{MOST_LIGHT}
use Rattle.ch_contract.proofs.remaining.light.are_light_arcs.Given as goal

abbrev pub invariant-loop-arc : goal.invariant-loop-arc
invariant-loop-arc l = All (λ a. a.weight ≤ MOST_LIGHT) (take l.arc-index l.arcs)
