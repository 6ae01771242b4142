-- The two lists of a table, on a graph with this many nodes.
use Rattle.std.specs.Prelude.{◌≡◌, ℕ, ◌*◌, ◌<◌, ◌≤◌, ◌⊎◌, List, length, All}
use Rattle.ch_graph.specs.declared.limits.TheConstants.{MOST_LISTED}
use Rattle.ch_work.specs.declared.limits.TheConstants.{MOST_CELLS}
use Rattle.ch_run.specs.declared.fault.Which.{Which}
use Rattle.ch_run.specs.declared.fault.RunFault.{RunFault}
use Rattle.ch_run.specs.Run.{Reading, ReadsNodes, IsOf}

-- these lists make more cells than a table may have
abbrev pub HasTooManyCells : List ℕ → List ℕ → Type 0
HasTooManyCells sources targets = MOST_CELLS < length sources * length targets

-- these are lists of nodes within the limits, and they don't make too many cells
pub record AreLists (nodes : ℕ) (from to : List ℕ) : Type 0 where
  pub sources : All (λ node. node < nodes) from
  pub targets : All (λ node. node < nodes) to
  pub sizes : (length from ≤ MOST_LISTED) × (length to ≤ MOST_LISTED)
  pub cells : length from * length to ≤ MOST_CELLS

-- the input was read to its end and names a list of nodes
abbrev pub AcceptsList : Reading → ℕ → Type 0
AcceptsList list nodes = (listed : List ℕ) × ReadsNodes list nodes listed

-- the inputs were read to their end and name these lists, which don't make too many cells
abbrev pub ReadsLists : Reading → Reading → ℕ → List ℕ → List ℕ → Type 0
ReadsLists sources targets nodes from to = ReadsNodes sources nodes from × ReadsNodes targets nodes to × (HasTooManyCells from to → ⊥)

-- the lists were accepted, but they make too many cells
abbrev pub HaveCellsRefused : Reading → Reading → ℕ → Type 0
HaveCellsRefused sources targets nodes =
    (from to : List ℕ) × ReadsNodes sources nodes from × ReadsNodes targets nodes to × HasTooManyCells from to

-- the faults that reading the lists can end in: one is refused or can't be read, there is no memory, or there are too many cells
abbrev pub IsOfLists : RunFault → Type 0
IsOfLists fault = IsOf Which.Sources fault ⊎ IsOf Which.Targets fault ⊎ (fault ≡ RunFault.Cells)
