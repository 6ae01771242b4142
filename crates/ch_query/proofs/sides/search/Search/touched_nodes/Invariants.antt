-- The nodes are those of the ranks before the current one, and there is capacity for the others.
use Rattle.std.proofs.Common.{◌≡◌, ◌<◌, ◌≤◌, ℕ, Contains, map, take, length, vec_len}
use Rattle.std.specs.Prelude.{vec_capacity}
use Rattle.ch_hierarchy.specs.Hierarchy.{nodes_of}
use Rattle.ch_hierarchy.specs.Ranked.{rank_of}
use Rattle.ch_query.proofs.sides.search.Search.touched_nodes.Given as goal

abbrev pub invariant-loop-rank : goal.invariant-loop-rank
invariant-loop-rank l = record {
  ranks : map (rank_of l.hierarchy) l.nodes.items ≡ take l.rank-index l.self.touched.items;
  within : (v : ℕ) → Contains l.nodes.items v → v < nodes_of l.hierarchy;
  count : vec_len l.nodes ≡ l.rank-index;
  room : length l.self.touched.items ≤ vec_capacity l.nodes;
}
