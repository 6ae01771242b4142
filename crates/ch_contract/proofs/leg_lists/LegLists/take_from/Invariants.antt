-- The nodes of the legs before the current one have lost their legs at the contracted node.
use Rattle.std.proofs.Common.{◌≡◌, take}
use Rattle.ch_contract.specs.LegLists.{AreTaken}
use Rattle.ch_contract.proofs.leg_lists.LegLists.take_from.Given as goal

-- the legs at v of the nodes so far were taken out
abbrev pub invariant-loop-leg : goal.invariant-loop-leg
invariant-loop-leg l = AreTaken l.v (take l.leg-index l.others) l.fn.self.rows l.self.rows × (l.self.aside ≡ l.fn.self.aside)
