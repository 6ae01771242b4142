-- The legs of a node, in order of the other node.
use Rattle.std.specs.Prelude.{ℕ, ◌<◌, List, [], AllPairs, slice_index_or}
use Rattle.ch_hierarchy.specs.declared.leg.Leg.{Leg}

-- the row of v, which is empty for a node that has no row
abbrev pub row : List (List Leg) → ℕ → List Leg
row rows v = slice_index_or rows v []

-- the legs are in order of their node, and each node occurs once
abbrev pub IsRow : List Leg → Type 0
IsRow legs = AllPairs (λ a b. a.node < b.node) legs
