-- The cells of a table as pairs: each source with all targets, row after row.
use Rattle.std.specs.Prelude.{◌≡◌, ℕ, ◌+◌, ◌<◌, ◌++◌, List, [], ◌∷◌, length, map, slice_index, slice_index_or, replicate}
use Rattle.ch_hierarchy.specs.Hierarchy.{LevelsAndLegs, nodes_of}
use Rattle.ch_hierarchy.specs.declared.side.Side.TheVariants.{Down, Up}
use Rattle.ch_flows.specs.declared.gathering.Branch.{Branch}
use Rattle.ch_flows.specs.declared.plan.Link.{Link}
use Rattle.ch_flows.specs.declared.sums.Sums.{Sums}
use Rattle.ch_flows.specs.declared.table.Row.{Row}
use Rattle.ch_flows.specs.declared.tree.Tree.{Tree}
use Rattle.ch_flows.specs.declared.table.Columns.{Columns}
use Rattle.ch_flows.specs.Gathering.{AreStepsBack, gathered}
use Rattle.ch_flows.specs.Handing.{weighed}
use Rattle.ch_flows.specs.Meetings.{AreStops, kept_of}
use Rattle.ch_flows.specs.Trees.{AreBranches, IsTree}

-- the source of each cell
abbrev pub cell_sources : List ℕ → List ℕ → List ℕ
cell_sources [] targets = []
cell_sources (s ∷ sources) targets = replicate (length targets) s ++ cell_sources sources targets

-- the target of each cell
abbrev pub cell_targets : List ℕ → List ℕ → List ℕ
cell_targets [] targets = []
cell_targets (s ∷ sources) targets = targets ++ cell_targets sources targets

-- these are the trees of nodes
abbrev pub AreTreesOfNodes : LevelsAndLegs → List Branch → List Tree → Type 0
AreTreesOfNodes H branches trees = (c : ℕ) (d : Tree) → c < length trees →
    ((slice_index_or trees c d).source < nodes_of H) × IsTree Down H branches (slice_index_or trees c d)

-- each node has as stops the trees that keep an entry there
pub record IsColumns (H : LevelsAndLegs) (links : List Link) (columns : Columns) : Type 0 where
  pub trees : AreTreesOfNodes H columns.branches.items columns.trees.items
  pub branches : AreBranches Down H links columns.branches.items
  pub count : length columns.stops ≡ nodes_of H
  pub stops : AreStops columns.stops (map kept_of columns.trees.items)

-- the tree of a node that is the source of a row
pub record IsRowTree (H : LevelsAndLegs) (links : List Link) (row : Row) : Type 0 where
  pub source : row.tree.source < nodes_of H
  pub tree : IsTree Up H row.branches.items row.tree
  pub branches : AreBranches Up H links row.branches.items

-- what was added to legs and what is held for columns, and for a row too
abbrev pub summed : List Branch → Sums → (ℕ → ℕ) → ℕ
summed columns sums share = weighed share sums.legs.items + gathered share columns sums.columns.items

abbrev pub summed_with : List Branch → List Branch → Sums → (ℕ → ℕ) → ℕ
summed_with row columns sums share = summed columns sums share + gathered share row sums.row.items

-- the sums of a row and of columns have a number for each branch
pub record AreSums (row columns : List Branch) (sums : Sums) : Type 0 where
  pub row_long : length sums.row.items ≡ length row
  pub column_long : length sums.columns.items ≡ length columns
  pub row_steps : AreStepsBack (length sums.legs.items) row
  pub column_steps : AreStepsBack (length sums.legs.items) columns

-- the trees are those of the first n targets
abbrev pub AreTargetTrees : List ℕ → ℕ → List Tree → Type 0
AreTargetTrees targets n trees = (length trees ≡ n) × ((c : ℕ) (d : Tree) → c < n →
    (slice_index_or trees c d).source ≡ slice_index targets c)

-- these pairs from the first one on are a source with the targets of trees, and have these demands
abbrev pub IsRowAt : List ℕ → List ℕ → List ℕ → ℕ → ℕ → List Tree → List ℕ → Type 0
IsRowAt sources targets demands first source trees row = (c : ℕ) (d : Tree) → c < length row →
    (slice_index sources (first + c) ≡ source) × (slice_index targets (first + c) ≡ (slice_index_or trees c d).source)
    × (slice_index demands (first + c) ≡ slice_index row c)
