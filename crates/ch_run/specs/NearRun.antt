-- The promises of a run that writes near rows.
use Rattle.std.specs.Prelude.{◌≡◌, ◌⊎◌, ℕ, ◌<◌, ◌≤◌, List, length, All, Option, Some, None, Result, Vec, ⊤}
use Rattle.std.specs.declared.alloc.Global.{Global}
use Rattle.ch_graph.specs.declared.limits.TheConstants.{MOST_LISTED}
use Rattle.ch_text.specs.declared.device.DeviceFault.{DeviceFault}
use Rattle.ch_run.specs.declared.fault.Which.{Which}
use Rattle.ch_run.specs.declared.fault.RunFault.{RunFault}
use Rattle.ch_job.specs.declared.options.Options.{Options}
use Rattle.ch_job.specs.declared.sources.Sources.{Sources}
use Rattle.ch_job.specs.declared.sources.Sources.TheVariants.{All as Each, Listed}
use Rattle.ch_run.specs.Run.{Reading, ReadsNodes, IsOf, IsWrite, reading_if, ReadingIf, NoInput}
use Rattle.ch_run.specs.Run.{OneInput, SourceReading}
use Rattle.ch_run.specs.Source.{IsOfLoading, WithLoaded}
use Rattle.ch_run.specs.Text.{IsNearTextFor}
use Rattle.ch_text.specs.NearText.{nodes_in_order}

-- the input of the list of sources, if one is read
abbrev pub listed_in : {J : Type 0} → Sources J → Option J
listed_in Each = None
listed_in (Listed input) = Some input

-- the reading of the list of sources, if one is read
abbrev pub sources_reading : {J : Type 0} → (gives : J → List ℕ → Result ℕ DeviceFault → J → Type 0) → Sources J → Sources J → ReadingIf
sources_reading gives old new = reading_if gives (listed_in old) (listed_in new)

-- these are lists of nodes, and the list of targets is within the limit
pub record AreNodeLists (nodes : ℕ) (from to : List ℕ) : Type 0 where
  pub sources : All (λ node. node < nodes) from
  pub targets : All (λ node. node < nodes) to
  pub few : length to ≤ MOST_LISTED

-- the sources are the nodes of the list that was read, or all nodes in order
abbrev pub AreSources : ReadingIf → ℕ → List ℕ → Type 0
AreSources NoInput nodes from = from ≡ nodes_in_order nodes
AreSources (OneInput sources) nodes from = ReadsNodes sources nodes from

-- the sources: those of the list that was read, or all nodes in order
abbrev pub sources_among : ℕ → Option (List ℕ) → List ℕ
sources_among nodes None = nodes_in_order nodes
sources_among nodes (Some from) = from

-- the nodes that are the sources, on a graph with this many nodes: all of them, in order, or those of the list
abbrev pub nodes_of_sources : ℕ → Sources (Vec ℕ Global) → List ℕ
nodes_of_sources nodes Each = nodes_in_order nodes
nodes_of_sources nodes (Listed list) = list.items

-- the list of sources, if it is one, is within the limit
abbrev pub AreFewSources : Sources (Vec ℕ Global) → Type 0
AreFewSources Each = ⊤
AreFewSources (Listed list) = length list.items ≤ MOST_LISTED

-- the list of sources was accepted, if one is read
abbrev pub AcceptsAnySources : ReadingIf → ℕ → Type 0
AcceptsAnySources sources nodes = (from : List ℕ) × AreSources sources nodes from

-- these are the sources, and the input of the targets was read to its end and names these
abbrev pub ReadsNodeLists : ReadingIf → Reading → ℕ → List ℕ → List ℕ → Type 0
ReadsNodeLists sources targets nodes from to = AreSources sources nodes from × ReadsNodes targets nodes to

-- the inputs name a graph and the two lists, and the text has their near rows with the options. A hierarchy that is
-- loaded is right for the graph
abbrev pub IsNearBy : Options → Reading → SourceReading → ReadingIf → Reading → List ℕ → Type 0
IsNearBy options graph source sources targets text =
    WithLoaded graph source
    (λ g _. (from to : List ℕ) × ReadsNodeLists sources targets g.nodes from to × IsNearTextFor options g from to text)

-- the graph was accepted, and then the file for the hierarchy and the list of sources, if they are read
abbrev pub AcceptsNearSources : Reading → SourceReading → ReadingIf → Type 0
AcceptsNearSources graph source sources = WithLoaded graph source (λ g _. AcceptsAnySources sources g.nodes)

-- all of these were accepted, and then the targets
abbrev pub AcceptsNodeLists : Reading → SourceReading → ReadingIf → Reading → Type 0
AcceptsNodeLists graph source sources targets =
    WithLoaded graph source (λ g _. (from to : List ℕ) × ReadsNodeLists sources targets g.nodes from to)

-- the faults that reading the list of sources can end in, if one is read
abbrev pub IsOfSources : ReadingIf → RunFault → Type 0
IsOfSources NoInput fault = ⊥
IsOfSources (OneInput sources) fault = IsOf Which.Sources fault

-- the faults that reading both lists can end in: one of them is refused or can't be read, or there is no memory
abbrev pub IsOfNodeLists : ReadingIf → RunFault → Type 0
IsOfNodeLists sources fault = IsOfSources sources fault ⊎ IsOf Which.Targets fault

-- the faults that the run can end in
abbrev pub IsOfNear : SourceReading → ReadingIf → RunFault → Type 0
IsOfNear source sources fault = IsOfLoading source fault ⊎ IsOfNodeLists sources fault ⊎ IsWrite fault
