-- The search for the shortcuts of a node that begin with one leg to it.
use Rattle.std.specs.Prelude.{◌≡◌, ◌≢◌, ℕ, zero, suc, ◌+◌, ◌<◌, ◌≤◌, List, length, All, Contains, Option, MatchOption}
use Rattle.ch_graph.specs.declared.limits.TheConstants.{MOST_WEIGHT}
use Rattle.ch_graph.specs.declared.cost.Cost.{Cost}
use Rattle.ch_graph.specs.Cost.{IsAtMost, cost_sum}
use Rattle.ch_hierarchy.specs.declared.leg.Leg.{Leg}
use Rattle.ch_contract.specs.declared.witness_search.Wanted.{Wanted}
use Rattle.ch_contract.specs.KnownCosts.{Known, AreLeastCosts}
use Rattle.ch_contract.specs.LegLists.{legs_into}
use Rattle.ch_contract.specs.Remaining.{RemainingLegs}

-- the most legs of the chains that a search learns before it looks for witnesses of at most so many legs. One or two legs more
-- are looked for at each start, unless a witness has only one
abbrev pub known_legs : ℕ → ℕ
known_legs zero = 0
known_legs (suc zero) = 1
known_legs (suc (suc hops)) = hops

-- the least costs to the wanted end are known, of chains of at most that many legs
pub record IsKnown (r : RemainingLegs) (s : Wanted) (hops : ℕ) (h : Known) : Type 0 where
  pub size : length h.costs ≡ r.nodes
  pub least : AreLeastCosts (legs_into r.rows) s (known_legs hops) h

-- a leg to a node and a leg from it have different other ends, and their sum keeps the limits
pub record IsCandidate (n : ℕ) (first second : Leg) : Type 0 where
  pub apart : first.node ≢ second.node
  pub weight : first.cost.weight + second.cost.weight ≤ MOST_WEIGHT
  pub arcs : first.cost.arcs + second.cost.arcs < n

-- if the two legs are a candidate, they cost at most this
abbrev pub IsMostFor : ℕ → Leg → Cost → Leg → Type 0
IsMostFor n first most second = IsCandidate n first second → IsAtMost (cost_sum first.cost second.cost) most

-- no leg of the list makes a candidate, or this is the greatest cost of the candidates
abbrev pub AreBounded : ℕ → Leg → List Leg → Option Cost → Type 0
AreBounded n first up o =
    MatchOption o (All (λ l. IsCandidate n first l → ⊥) up)
    (λ most. ((l : Leg) × Contains up l × IsCandidate n first l × (most ≡ cost_sum first.cost l.cost))
    × All (IsMostFor n first most) up)
