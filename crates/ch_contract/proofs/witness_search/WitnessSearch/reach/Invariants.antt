-- The least costs of chains of at most as many legs as there were rounds are known.
use Rattle.ch_contract.specs.KnownCosts.{IsAfterRounds, known_of}
use Rattle.ch_contract.specs.LegLists.{legs_into}
use Rattle.std.proofs.Common.{length}
use Rattle.ch_contract.proofs.witness_search.WitnessSearch.reach.Given as goal

abbrev pub invariant-loop-round : goal.invariant-loop-round
invariant-loop-round g l =
    IsAfterRounds (length l.lists.rows) (legs_into l.lists.rows) l.wanted l._round (known_of g.K.HeldCost.cost l.self.known)
