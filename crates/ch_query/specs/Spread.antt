-- The result of a search without a target.
use Rattle.std.specs.Prelude.{◌≡◌, ℕ, ◌<◌, true, is_some, List, Contains, AllPairs, Option, unwrap_or}
use Rattle.ch_graph.specs.declared.cost.Cost.{Cost}
use Rattle.ch_graph.specs.Cost.{no_cost, cost_at}
use Rattle.ch_hierarchy.specs.declared.leg.Leg.{Leg}
use Rattle.ch_hierarchy.specs.Paths.{IsLeastUpwardPath}
use Rattle.ch_query.specs.Limits.{IsWithin}

-- exactly the nodes that are reached from s at a weight within the limit, with their least costs, in order of node
pub record IsSpread (rows : List (List Leg)) (limit : Option ℕ) (s : ℕ) (list : List (ℕ × Cost)) : Type 0 where
  pub order : AllPairs (λ a b. a.0 < b.0) list
  pub sound : (v : ℕ) (c : Cost) → Contains list (v, c) → IsLeastUpwardPath rows s v c × IsWithin limit c.weight
  pub whole : (v : ℕ) (c : Cost) → IsLeastUpwardPath rows s v c → IsWithin limit c.weight → Contains list (v, c)

-- the nodes that have a cost, in order
pub record AreReached (costs : List (Option Cost)) (nodes : List ℕ) : Type 0 where
  pub order : AllPairs (λ a b. a < b) nodes
  pub sound : (v : ℕ) → Contains nodes v → is_some (cost_at costs v) ≡ true
  pub whole : (v : ℕ) → is_some (cost_at costs v) ≡ true → Contains nodes v

-- a node and its cost
abbrev pub entry : List (Option Cost) → ℕ → ℕ × Cost
entry costs v = (v, unwrap_or (cost_at costs v) no_cost)
