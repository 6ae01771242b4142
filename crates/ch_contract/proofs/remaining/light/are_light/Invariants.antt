-- The shortcuts before the current one are light enough for searches over words.
use Rattle.std.proofs.Common.{◌≤◌, All, take}
use Rattle.ch_contract.specs.declared.held_cost.TheConstants.{MOST_LIGHT}
use Rattle.ch_contract.proofs.remaining.light.are_light.Given as goal

abbrev pub invariant-loop-shortcut : goal.invariant-loop-shortcut
invariant-loop-shortcut l = All (λ s. s.cost.weight ≤ MOST_LIGHT) (take l.shortcut-index l.shortcuts)
