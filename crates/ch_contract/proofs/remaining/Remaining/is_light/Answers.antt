-- If the mark is set, each leg is light enough for searches over words.
use Rattle.std.proofs.Common.{subst}
use Rattle.ch_contract.specs.declared.held_cost.TheConstants.{MOST_LIGHT}
use Rattle.ch_contract.specs.KnownCosts.{AreLegsUpTo}
use Rattle.ch_contract.specs.Remaining.{RemainingLegs, legs_of}
use Rattle.ch_contract.proofs.remaining.Remaining.is_light.Goals as goal

pub returns : goal.returns
unfolding legs_of
returns c light = subst (λ (m : RemainingLegs). AreLegsUpTo MOST_LIGHT (legs_of m)) c.self.view_is (c.self.invariant.1 light)
