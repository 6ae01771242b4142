-- Parts of a topology, which workers customize apart.
use Rattle.std.specs.Prelude.{◌≡◌, ◌≢◌, ◌⊎◌, ℕ, ◌<◌, ◌≤◌, List, [], length, Contains, slice_index, slice_index_or}
use Rattle.ch_graph.specs.Graph.{Network}
use Rattle.ch_hierarchy.specs.Saved.{AreLevelsOf}
use Rattle.ch_hierarchy.specs.declared.side.Side.TheVariants.{Up, Down}
use Rattle.ch_custom.specs.declared.leg_pair.LegPair.{LegPair}
use Rattle.ch_custom.specs.LegPairs.{row_of, rows_at, pairs_row}
use Rattle.ch_custom.specs.Topologies.{HasLegs, legs_after, AreFor, AreMetricsAt}

-- each node is in the part of its number, or in the rest, whose number is the greatest. The nodes of a row are in the rest, or
-- in the part of its node. So the legs of a part do not depend on those of another
pub record AreParts (order : List ℕ) (rows : List (List ℕ)) (rest : ℕ) (parts : List ℕ) : Type 0 where
  pub size : length parts ≡ length rows
  pub within : (v : ℕ) → v < length rows → slice_index parts v ≤ rest
  pub apart : (i x : ℕ) → i < length rows → Contains (slice_index_or rows (slice_index order i) []) x →
      (slice_index parts x ≡ rest) ⊎ (slice_index parts x ≡ slice_index parts (slice_index order i))

-- the same, where the nodes before this place of the order have no part yet
pub record ArePartsFrom (order : List ℕ) (rows : List (List ℕ)) (rest place : ℕ) (parts : List ℕ) : Type 0 where
  pub size : length parts ≡ length rows
  pub within : (v : ℕ) → v < length rows → slice_index parts v ≤ rest
  pub apart : (i x : ℕ) → place ≤ i → i < length rows → Contains (slice_index_or rows (slice_index order i) []) x →
      (slice_index parts x ≡ rest) ⊎ (slice_index parts x ≡ slice_index parts (slice_index order i))

-- a node with this row may be in this part
abbrev pub MayBeIn : List ℕ → ℕ → List ℕ → ℕ → Type 0
MayBeIn parts rest row part = (part ≤ rest)
    × ((x : ℕ) → Contains row x → (slice_index parts x ≡ rest) ⊎ (slice_index parts x ≡ part))

-- a topology of a graph that is cut into parts
pub record IsDivision (g : Network) (order levels : List ℕ) (rows : List (List ℕ)) (rest : ℕ) (parts : List ℕ) : Type 0 where
  pub ready : AreFor g order rows
  pub levelled : AreLevelsOf order levels
  pub divided : AreParts order rows rest parts

-- the rows of the nodes of a part, and empty ones for all other nodes
pub record AreRowsOf (rows : List (List ℕ)) (parts : List ℕ) (part : ℕ) (own : List (List ℕ)) : Type 0 where
  pub size : length own ≡ length rows
  pub mine : (v : ℕ) → v < length rows → slice_index parts v ≡ part → slice_index_or own v [] ≡ slice_index_or rows v []
  pub others : (v : ℕ) → v < length rows → slice_index parts v ≢ part → slice_index_or own v [] ≡ []

-- the legs of the node at this place just before it is taken
abbrev pub AreTakenAt : Network → List ℕ → List (List ℕ) → ℕ → List LegPair → Type 0
AreTakenAt g order rows k taken =
    HasLegs (legs_after g order k (slice_index order k)) (slice_index_or rows (slice_index order k) []) (row_of Up taken)
    × HasLegs (λ x. legs_after g order k x (slice_index order k)) (slice_index_or rows (slice_index order k) []) (row_of Down taken)

-- the legs of a part after the last node is taken
abbrev pub AreOfPart : Network → List ℕ → List (List ℕ) → List ℕ → ℕ → List (List LegPair) → Type 0
AreOfPart g order rows parts part metric = (own : List (List ℕ)) × AreRowsOf rows parts part own
    × AreMetricsAt g order own g.nodes (rows_at Up metric) (rows_at Down metric)

-- the same for each of these parts
abbrev pub AreOfParts : Network → List ℕ → List (List ℕ) → List ℕ → List (List (List LegPair)) → Type 0
AreOfParts g order rows parts metrics = (part : ℕ) → part < length metrics →
    AreOfPart g order rows parts part (slice_index_or metrics part [])

-- the row of each node is that of its part
pub record AreGathered (parts : List ℕ) (metrics : List (List (List LegPair))) (metric : List (List LegPair)) : Type 0 where
  pub size : length metric ≡ length parts
  pub each : (v : ℕ) → v < length parts → pairs_row metric v ≡ pairs_row (slice_index_or metrics (slice_index parts v) []) v
