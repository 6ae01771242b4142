-- The costs that a search holds, and their form in one word.
use Rattle.std.specs.Prelude.{◌≡◌, ℕ, ◌+◌, ◌*◌, ◌/◌, ◌%◌, ◌≤◌, ◌⊎◌}
use Rattle.ch_graph.specs.declared.limits.TheConstants.{MOST_NODES, MOST_WEIGHT, MOST_SUM}
use Rattle.ch_graph.specs.declared.cost.Cost.{Cost}
use Rattle.ch_contract.specs.declared.held_cost.TheConstants.{MOST_CHAIN_ARCS, NEVER_ARCS, WEIGHT_UNIT, NEVER_BIT}

-- the cost of a node without a known chain, which is more than any bound of a search
abbrev pub never : Cost
never = record { weight = MOST_WEIGHT; arcs = NEVER_ARCS }

-- the cost of a leg, if no leg weighs more than the limit
pub record IsLight (limit : ℕ) (c : Cost) : Type 0 where
  pub limited : c.weight ≤ limit
  pub weight : c.weight ≤ MOST_WEIGHT
  pub arcs : c.arcs ≤ MOST_NODES

-- a bound on chains, which is the cost of two legs; or the cost of a chain within the bound, with at most as
-- many legs as a witness
pub record IsHeld (limit : ℕ) (c : Cost) : Type 0 where
  pub limited : c.weight ≤ 2 * limit
  pub weight : c.weight ≤ MOST_WEIGHT
  pub arcs : c.arcs ≤ MOST_CHAIN_ARCS

-- a cost that may be added to a known one: a bound on chains, or the cost of two legs
pub record IsAddend (limit : ℕ) (c : Cost) : Type 0 where
  pub limited : c.weight ≤ 2 * limit
  pub weight : c.weight ≤ MOST_SUM
  pub arcs : c.arcs ≤ MOST_CHAIN_ARCS

-- the cost of a known chain, or `never` if none is known
abbrev pub IsKnownCost : ℕ → Cost → Type 0
IsKnownCost limit c = (c ≡ never) ⊎ IsHeld limit c

-- the cost in a word, from the lowest bit: 31 bits of arcs, 32 bits of weight, and a bit that adds `never`
abbrev pub cost_in : ℕ → Cost
cost_in bits = record {
  weight = bits % NEVER_BIT / WEIGHT_UNIT + MOST_WEIGHT * (bits / NEVER_BIT);
  arcs =
      bits % NEVER_BIT % WEIGHT_UNIT + NEVER_ARCS * (bits / NEVER_BIT);
}
