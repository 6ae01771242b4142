-- The neighbours of a node, from the lists of its legs.
use Rattle.std.specs.Prelude.{ℕ, ◌==◌, Bool, not, List, ◌++◌, map, filter}
use Rattle.std.specs.List.{list_any}
use Rattle.ch_hierarchy.specs.declared.leg.Leg.{Leg}

-- whether a leg of this list has this node
abbrev pub has_node : List Leg → ℕ → Bool
has_node legs x = list_any (λ l. l.node == x) legs

-- the nodes of these legs that are not nodes of the other legs
abbrev pub other_nodes : List Leg → List Leg → List ℕ
other_nodes others legs = map (λ l. l.node) (filter (λ l. not (has_node others l.node)) legs)

-- the nodes of the legs from a node and then those of the legs to it, each once
abbrev pub neighbours_in : List Leg → List Leg → List ℕ
neighbours_in up down = map (λ l. l.node) up ++ other_nodes up down
