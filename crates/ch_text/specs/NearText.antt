-- The text of near rows.
use Rattle.std.specs.Prelude.{ℕ, List, ◌++◌, flat_map, length, slice_index, codes, decimal}
use Rattle.std.specs.List.{range_with_len}
use Rattle.ch_text.specs.Distances.{node_text}

-- the text of a pair of a distance and a place in the list of targets: the target at this place, and the distance
abbrev pub near_pair_text : List ℕ → ℕ × ℕ → List ℕ
near_pair_text targets e = codes " " ++ node_text (slice_index targets e.1) ++ codes " " ++ decimal e.0

-- the text of a near row: the source, the number of targets, and the targets, each with its distance
abbrev pub near_row_text : List ℕ → ℕ × List (ℕ × ℕ) → List ℕ
near_row_text targets row = codes "n " ++ node_text row.0 ++ codes " " ++ decimal (length row.1)
    ++ flat_map (near_pair_text targets) row.1 ++ codes "\n"

-- the nodes of a graph with this many nodes, in order
abbrev pub nodes_in_order : ℕ → List ℕ
nodes_in_order nodes = range_with_len 0 nodes
