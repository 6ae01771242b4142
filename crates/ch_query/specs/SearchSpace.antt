-- The result of a search to higher nodes that stalls: weights of paths, and among them those of all least walks.
use Rattle.std.specs.Prelude.{◌≡◌, ◌≢◌, ℕ, ◌<◌, List, AllPairs, Contains, Option}
use Rattle.ch_graph.specs.declared.cost.Cost.{Cost}
use Rattle.ch_hierarchy.specs.declared.leg.Leg.{Leg}
use Rattle.ch_hierarchy.specs.Hierarchy.{LevelsAndLegs, nodes_of}
use Rattle.ch_hierarchy.specs.Ranked.{rank_of}
use Rattle.ch_hierarchy.specs.Paths.{IsUp, IsDown}
use Rattle.ch_hierarchy.specs.KeptLaws.{IsLeastMeeting}
use Rattle.ch_hierarchy.specs.declared.side.Side.{Side}
use Rattle.ch_hierarchy.specs.declared.side.Side.TheVariants.{Up, Down}
use Rattle.ch_hierarchy.specs.Side.{rows_of}
use Rattle.ch_query.specs.Limits.{IsWithin}
use Rattle.ch_query.specs.Search.{IsUpwardCost}

-- some upward path from s to v weighs x
abbrev pub IsPathWeight : List (List Leg) → ℕ → ℕ → ℕ → Type 0
IsPathWeight rows s v x = (c : Cost) × IsUpwardCost rows s v c × (c.weight ≡ x)

-- the least cost of going up from s to v is c, and no walk costs less; or the same for going down from v to s
abbrev pub IsTight : LevelsAndLegs → Side → ℕ → ℕ → Cost → Type 0
IsTight H Up s v c = IsUp H s v c × IsLeastMeeting H s v c
IsTight H Down s v c = IsDown H v s c × IsLeastMeeting H v s c

-- ranks of nodes with weights within the limit, each rank once, in any order. Each weight is that of an upward path from s.
-- Each tight node whose least weight is within the limit has an entry with it
pub record IsRankedSpace (H : LevelsAndLegs) (side : Side) (limit : Option ℕ) (s : ℕ) (list : List (ℕ × ℕ)) : Type 0 where
  pub distinct : AllPairs (λ a b. a.0 ≢ b.0) list
  pub sound : (rank x : ℕ) → Contains list (rank, x) →
      (v : ℕ) × (v < nodes_of H) × (rank_of H v ≡ rank) × IsPathWeight (rows_of H side) s v x × IsWithin limit x
  pub whole : (v : ℕ) (c : Cost) → IsTight H side s v c → IsWithin limit c.weight → (v < nodes_of H) × Contains list (rank_of H v, c.weight)
