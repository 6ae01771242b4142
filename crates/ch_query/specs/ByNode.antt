-- The lists by rank of a search, as lists by node.
use Rattle.std.specs.Prelude.{◌≡◌, ℕ, ◌-◌, ◌<◌, List, Option, None, map, slice_index_or}
use Rattle.ch_graph.specs.declared.cost.Cost.{Cost}
use Rattle.ch_hierarchy.specs.Hierarchy.{LevelsAndLegs, nodes_of}
use Rattle.ch_hierarchy.specs.Ranked.{rank_of}
use Rattle.ch_query.specs.declared.sides.search.Search.{Search}

-- a list by rank as a list by node; a node of level l has rank n - l
abbrev pub by_node : {A : Type 0} → LevelsAndLegs → List A → A → List A
by_node H list default = map (λ level. slice_index_or list (nodes_of H - level) default) H.level

-- some node has this rank
abbrev pub IsSomeRank : LevelsAndLegs → ℕ → Type 0
IsSomeRank H rank = (v : ℕ) × (v < nodes_of H) × (rank ≡ rank_of H v)

-- the costs that a search knows, by node
abbrev pub costs_of : LevelsAndLegs → Search → List (Option Cost)
costs_of H x = by_node H x.labels.costs None

-- the keys of its queue, by node
abbrev pub keys_of : LevelsAndLegs → Search → List (Option Cost)
keys_of H x = by_node H x.queue None

-- the parents that it knows, by node
abbrev pub parents_of : LevelsAndLegs → Search → List ℕ
parents_of H x = by_node H x.labels.parents 0
