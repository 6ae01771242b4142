-- When a network is not opened, when the arguments of a question fit, and when a question is refused.
use Rattle.std.specs.Prelude.{◌≡◌, ◌≢◌, ℕ, ◌*◌, ◌<◌, ◌≤◌, ◌⊎◌, List, [], length, All, Option, None, IsSome, MatchOption, ⊤}
use Rattle.ch_graph.specs.declared.limits.TheConstants.{MOST_LISTED}
use Rattle.ch_graph.specs.Graph.{Network, IsFirstFault as IsFirstGraphFault}
use Rattle.ch_graph.specs.Saved.{OrderAndLegs}
use Rattle.ch_hierarchy.specs.Saved.{IsFirstFault}
use Rattle.ch_read.specs.declared.form.Form.TheVariants.{Graph, Saved}
use Rattle.ch_read.specs.Checks.{IsFault}
use Rattle.ch_read.specs.Names.{NamesGraph, NamesSaved}
use Rattle.ch_engine.specs.Opened.{IsOfArrays}
use Rattle.ch_engine.specs.declared.fault.OpenError.{OpenError}
use Rattle.ch_engine.specs.declared.fault.Refusal.{Refusal}
use Rattle.ch_engine.specs.NearTable.{KeepsAll, places_of}
use Rattle.ch_rows.specs.Searched.{Asked}

-- the error is true of the bytes of a graph and of a saved hierarchy
abbrev pub IsOpenError : List ℕ → List ℕ → OpenError → Type 0
IsOpenError graph saved OpenError.NoMemory = ⊤
IsOpenError graph saved (OpenError.BadGraph f) = IsFault Graph graph f.line f.kind
IsOpenError graph saved (OpenError.BadSaved f) = (saved ≢ [])
    × ((g : Network) × NamesGraph graph g × IsFault (Saved g.nodes) saved f.line f.kind)
IsOpenError graph saved (OpenError.WrongSaved f) = (g : Network) × (s : OrderAndLegs) × NamesGraph graph g
    × NamesSaved saved g.nodes s × IsFirstFault g s f
IsOpenError graph saved OpenError.Lengths = ⊥
IsOpenError graph saved (OpenError.BadArrays f) = ⊥
IsOpenError graph saved OpenError.OtherNodes = ⊥
IsOpenError graph saved OpenError.FreshRange = ⊥

-- the error is true of the bytes of a saved hierarchy of a graph, or of that hierarchy
abbrev pub IsSavedError : Network → List ℕ → OpenError → Type 0
IsSavedError g saved OpenError.NoMemory = ⊤
IsSavedError g saved (OpenError.BadGraph f) = ⊥
IsSavedError g saved (OpenError.BadSaved f) = (saved ≢ []) × IsFault (Saved g.nodes) saved f.line f.kind
IsSavedError g saved (OpenError.WrongSaved f) = (s : OrderAndLegs) × NamesSaved saved g.nodes s × IsFirstFault g s f
IsSavedError g saved OpenError.Lengths = ⊥
IsSavedError g saved (OpenError.BadArrays f) = ⊥
IsSavedError g saved OpenError.OtherNodes = ⊥
IsSavedError g saved OpenError.FreshRange = ⊥

-- the error is true of the arrays of a graph of n nodes. Lengths come before arcs
abbrev pub IsArraysError : ℕ → List ℕ → List ℕ → List ℕ → OpenError → Type 0
IsArraysError n tails heads weights OpenError.NoMemory = ⊤
IsArraysError n tails heads weights (OpenError.BadGraph f) = ⊥
IsArraysError n tails heads weights (OpenError.BadSaved f) = ⊥
IsArraysError n tails heads weights (OpenError.WrongSaved f) = ⊥
IsArraysError n tails heads weights OpenError.Lengths = (length heads ≡ length tails) × (length weights ≡ length tails) → ⊥
IsArraysError n tails heads weights (OpenError.BadArrays f) = (g : Network) × IsOfArrays n tails heads weights g
    × IsFirstGraphFault g f
IsArraysError n tails heads weights OpenError.OtherNodes = ⊥
IsArraysError n tails heads weights OpenError.FreshRange = ⊥

-- the error is true of the arrays of a graph, or of its saved hierarchy. Arrays come before hierarchies
abbrev pub IsArraysOpenError : ℕ → List ℕ → List ℕ → List ℕ → List ℕ → OpenError → Type 0
IsArraysOpenError n tails heads weights saved error = IsArraysError n tails heads weights error
    ⊎ ((g : Network) × IsOfArrays n tails heads weights g × IsSavedError g saved error)

-- the error is true of the bytes of a graph, which is built in the order of a hierarchy of n nodes with so many per cent
-- afresh. Faults come before numbers of nodes, and these before per cents
abbrev pub IsLikeError : List ℕ → ℕ → ℕ → OpenError → Type 0
IsLikeError graph n fresh OpenError.NoMemory = ⊤
IsLikeError graph n fresh (OpenError.BadGraph f) = IsFault Graph graph f.line f.kind
IsLikeError graph n fresh (OpenError.BadSaved f) = ⊥
IsLikeError graph n fresh (OpenError.WrongSaved f) = ⊥
IsLikeError graph n fresh OpenError.Lengths = ⊥
IsLikeError graph n fresh (OpenError.BadArrays f) = ⊥
IsLikeError graph n fresh OpenError.OtherNodes = (g : Network) × NamesGraph graph g × (g.nodes ≢ n)
IsLikeError graph n fresh OpenError.FreshRange = (g : Network) × NamesGraph graph g × (g.nodes ≡ n) × (100 < fresh)

-- the numbers are nodes of a network of n nodes
abbrev pub AreNodes : ℕ → List ℕ → Type 0
AreNodes n nodes = All (λ node. node < n) nodes

-- these are pairs of nodes, with room for a word of each pair
abbrev pub ArePairs : ℕ → List ℕ → List ℕ → ℕ → Type 0
ArePairs n sources targets room = (length sources ≡ room) × (length targets ≡ room) × AreNodes n sources × AreNodes n targets

-- the reason for refusing the distances of pairs, with room for `room` words. Lengths come before nodes
abbrev pub IsRefusalOfPairs : ℕ → List ℕ → List ℕ → ℕ → Refusal → Type 0
IsRefusalOfPairs n sources targets room Refusal.NoMemory = ⊥
IsRefusalOfPairs n sources targets room Refusal.NodeRange = (length sources ≡ room) × (length targets ≡ room)
    × (AreNodes n sources × AreNodes n targets → ⊥)
IsRefusalOfPairs n sources targets room Refusal.Lengths = (length sources ≡ room) × (length targets ≡ room) → ⊥
IsRefusalOfPairs n sources targets room Refusal.TooLarge = ⊥
IsRefusalOfPairs n sources targets room Refusal.NoPlaces = ⊥
IsRefusalOfPairs n sources targets room Refusal.NoValues = ⊥

-- these are the sources and the targets of a table, with room for a word of each cell
abbrev pub AreTableLists : ℕ → List ℕ → List ℕ → ℕ → Type 0
AreTableLists n sources targets room =
    (length sources * length targets ≡ room) × AreNodes n sources × AreNodes n targets × (length sources ≤ MOST_LISTED)
    × (length targets ≤ MOST_LISTED)

-- the reason for refusing a table. Lengths come before nodes, nodes before sizes, and sizes before memory
abbrev pub IsRefusalOfTable : ℕ → List ℕ → List ℕ → ℕ → Refusal → Type 0
IsRefusalOfTable n sources targets room Refusal.NoMemory = AreTableLists n sources targets room
IsRefusalOfTable n sources targets room Refusal.NodeRange = (length sources * length targets ≡ room)
    × (AreNodes n sources × AreNodes n targets → ⊥)
IsRefusalOfTable n sources targets room Refusal.Lengths = length sources * length targets ≡ room → ⊥
IsRefusalOfTable n sources targets room Refusal.TooLarge =
    (length sources * length targets ≡ room) × AreNodes n sources × AreNodes n targets
    × ((length sources ≤ MOST_LISTED) × (length targets ≤ MOST_LISTED) → ⊥)
IsRefusalOfTable n sources targets room Refusal.NoPlaces = ⊥
IsRefusalOfTable n sources targets room Refusal.NoValues = ⊥

-- so many lines can be asked for with room for so many nodes: none, or as many
abbrev pub IsLinesRoom : ℕ → ℕ → Type 0
IsLinesRoom nodes lines = (lines ≡ 0) ⊎ (lines ≡ nodes)

-- arrays of these lengths fit so many pairs
abbrev pub AreRouteLengths : ℕ → ℕ → ℕ → ℕ → ℕ → ℕ → Type 0
AreRouteLengths sources targets weights ends nodes lines = (targets ≡ sources) × (weights ≡ sources) × (ends ≡ sources)
    × IsLinesRoom nodes lines

-- the reason for refusing routes, with arrays of these lengths for weights, ends, nodes and lines. Lengths come before
-- nodes
abbrev pub IsRefusalOfRoutes : ℕ → List ℕ → List ℕ → ℕ → ℕ → ℕ → ℕ → Refusal → Type 0
IsRefusalOfRoutes n sources targets weights ends nodes lines Refusal.NoMemory = ⊥
IsRefusalOfRoutes n sources targets weights ends nodes lines Refusal.NodeRange =
    AreRouteLengths (length sources) (length targets) weights ends nodes lines × (AreNodes n sources × AreNodes n targets → ⊥)
IsRefusalOfRoutes n sources targets weights ends nodes lines Refusal.Lengths =
    AreRouteLengths (length sources) (length targets) weights ends nodes lines → ⊥
IsRefusalOfRoutes n sources targets weights ends nodes lines Refusal.TooLarge = ⊥
IsRefusalOfRoutes n sources targets weights ends nodes lines Refusal.NoPlaces = ⊥
IsRefusalOfRoutes n sources targets weights ends nodes lines Refusal.NoValues = ⊥

-- arrays of these lengths fit so many pairs, and there is a value for each line
abbrev pub ArePairSumLengths : ℕ → ℕ → ℕ → ℕ → ℕ → ℕ → Type 0
ArePairSumLengths sources targets weights sums values lines = (targets ≡ sources) × (weights ≡ sources) × (sums ≡ sources)
    × (values ≡ lines)

-- the reason for refusing sums along routes in a network of n nodes and so many lines, with arrays of these lengths for
-- values, weights and sums. Lengths come before nodes
abbrev pub IsRefusalOfPairSums : ℕ → ℕ → List ℕ → List ℕ → ℕ → ℕ → ℕ → Refusal → Type 0
IsRefusalOfPairSums n lines sources targets values weights sums Refusal.NoMemory = ⊥
IsRefusalOfPairSums n lines sources targets values weights sums Refusal.NodeRange =
    ArePairSumLengths (length sources) (length targets) weights sums values lines × (AreNodes n sources × AreNodes n targets → ⊥)
IsRefusalOfPairSums n lines sources targets values weights sums Refusal.Lengths =
    ArePairSumLengths (length sources) (length targets) weights sums values lines → ⊥
IsRefusalOfPairSums n lines sources targets values weights sums Refusal.TooLarge = ⊥
IsRefusalOfPairSums n lines sources targets values weights sums Refusal.NoPlaces = ⊥
IsRefusalOfPairSums n lines sources targets values weights sums Refusal.NoValues = ⊥

-- arrays of these lengths fit so many pairs, and there is a flow for each line
abbrev pub AreFlowLengths : ℕ → ℕ → ℕ → ℕ → ℕ → Type 0
AreFlowLengths sources targets demands flows lines = (targets ≡ sources) × (demands ≡ sources) × (flows ≡ lines)

-- the reason for refusing flows in a network of n nodes and so many lines, with arrays of these lengths for demands and
-- flows. Lengths come before nodes
abbrev pub IsRefusalOfFlows : ℕ → ℕ → List ℕ → List ℕ → ℕ → ℕ → Refusal → Type 0
IsRefusalOfFlows n lines sources targets demands flows Refusal.NoMemory = ⊥
IsRefusalOfFlows n lines sources targets demands flows Refusal.NodeRange =
    AreFlowLengths (length sources) (length targets) demands flows lines × (AreNodes n sources × AreNodes n targets → ⊥)
IsRefusalOfFlows n lines sources targets demands flows Refusal.Lengths =
    AreFlowLengths (length sources) (length targets) demands flows lines → ⊥
IsRefusalOfFlows n lines sources targets demands flows Refusal.TooLarge = ⊥
IsRefusalOfFlows n lines sources targets demands flows Refusal.NoPlaces = ⊥
IsRefusalOfFlows n lines sources targets demands flows Refusal.NoValues = ⊥

-- arrays of these lengths fit a table: a demand for each cell, and a flow for each line
abbrev pub AreFlowTableLengths : ℕ → ℕ → ℕ → ℕ → ℕ → Type 0
AreFlowTableLengths sources targets demands flows lines = (demands ≡ sources * targets) × (flows ≡ lines)

-- the reason for refusing flows of a table, in the same order
abbrev pub IsRefusalOfFlowTable : ℕ → ℕ → List ℕ → List ℕ → ℕ → ℕ → Refusal → Type 0
IsRefusalOfFlowTable n lines sources targets demands flows Refusal.NoMemory = ⊥
IsRefusalOfFlowTable n lines sources targets demands flows Refusal.NodeRange =
    AreFlowTableLengths (length sources) (length targets) demands flows lines × (AreNodes n sources × AreNodes n targets → ⊥)
IsRefusalOfFlowTable n lines sources targets demands flows Refusal.Lengths =
    AreFlowTableLengths (length sources) (length targets) demands flows lines → ⊥
IsRefusalOfFlowTable n lines sources targets demands flows Refusal.TooLarge = ⊥
IsRefusalOfFlowTable n lines sources targets demands flows Refusal.NoPlaces = ⊥
IsRefusalOfFlowTable n lines sources targets demands flows Refusal.NoValues = ⊥

-- these are places: nodes, and not too many
abbrev pub ArePlaces : ℕ → List ℕ → Type 0
ArePlaces n places = (length places ≤ MOST_LISTED) × AreNodes n places

-- the reason for refusing places. Their number comes before nodes, and nodes before memory
abbrev pub IsRefusalOfPlaces : ℕ → List ℕ → Refusal → Type 0
IsRefusalOfPlaces n places Refusal.NoMemory = ArePlaces n places
IsRefusalOfPlaces n places Refusal.NodeRange = (length places ≤ MOST_LISTED) × (AreNodes n places → ⊥)
IsRefusalOfPlaces n places Refusal.Lengths = ⊥
IsRefusalOfPlaces n places Refusal.TooLarge = length places ≤ MOST_LISTED → ⊥
IsRefusalOfPlaces n places Refusal.NoPlaces = ⊥
IsRefusalOfPlaces n places Refusal.NoValues = ⊥

-- the reason for refusing the sweep. Places come before memory
abbrev pub IsRefusalOfSweep : Option Asked → Refusal → Type 0
IsRefusalOfSweep near Refusal.NoMemory = IsSome near
IsRefusalOfSweep near Refusal.NodeRange = ⊥
IsRefusalOfSweep near Refusal.Lengths = ⊥
IsRefusalOfSweep near Refusal.TooLarge = ⊥
IsRefusalOfSweep near Refusal.NoPlaces = near ≡ None
IsRefusalOfSweep near Refusal.NoValues = ⊥

-- near rows of these sources can be asked for, with arrays of these lengths for ends, weights and places
abbrev pub AreRowSources : ℕ → Option Asked → List ℕ → ℕ → ℕ → ℕ → Type 0
AreRowSources n near sources ends weights places = (length sources ≡ ends) × (weights ≡ places) × IsSome near × AreNodes n sources

-- the reason for refusing near rows. Lengths come before the places that are kept, and these before nodes
abbrev pub IsRefusalOfRows : ℕ → Option Asked → List ℕ → ℕ → ℕ → ℕ → Refusal → Type 0
IsRefusalOfRows n near sources ends weights places Refusal.NoMemory = ⊥
IsRefusalOfRows n near sources ends weights places Refusal.NodeRange = (length sources ≡ ends) × (weights ≡ places) × IsSome near
    × (AreNodes n sources → ⊥)
IsRefusalOfRows n near sources ends weights places Refusal.Lengths = (length sources ≡ ends) × (weights ≡ places) → ⊥
IsRefusalOfRows n near sources ends weights places Refusal.TooLarge = ⊥
IsRefusalOfRows n near sources ends weights places Refusal.NoPlaces = (length sources ≡ ends) × (weights ≡ places) × (near ≡ None)
IsRefusalOfRows n near sources ends weights places Refusal.NoValues = ⊥

-- there is a value for each place that is kept
abbrev pub HasValues : Option Asked → List ℕ → Type 0
HasValues near values = MatchOption near ⊥ (λ asked. length values ≡ length asked.targets)

-- sums over near rows of these sources can be asked for, with so many limits, and room for so many sums
abbrev pub AreSumSources : ℕ → Option Asked → List ℕ → List ℕ → ℕ → ℕ → Type 0
AreSumSources n near sources values limits sums = HasValues near values × (sums ≡ length sources * limits) × AreNodes n sources

-- the reason for refusing sums. Places come before lengths, and lengths before nodes
abbrev pub IsRefusalOfSums : ℕ → Option Asked → List ℕ → List ℕ → ℕ → ℕ → Refusal → Type 0
IsRefusalOfSums n near sources values limits sums Refusal.NoMemory = ⊥
IsRefusalOfSums n near sources values limits sums Refusal.NodeRange = HasValues near values × (sums ≡ length sources * limits)
    × (AreNodes n sources → ⊥)
IsRefusalOfSums n near sources values limits sums Refusal.Lengths = IsSome near
    × (HasValues near values × (sums ≡ length sources * limits) → ⊥)
IsRefusalOfSums n near sources values limits sums Refusal.TooLarge = ⊥
IsRefusalOfSums n near sources values limits sums Refusal.NoPlaces = near ≡ None
IsRefusalOfSums n near sources values limits sums Refusal.NoValues = ⊥

-- rows of a table over the kept places can be asked for: a row may have all places, and each cell has room
abbrev pub AreCellSources : ℕ → Option Asked → List ℕ → ℕ → Type 0
AreCellSources n near sources cells = KeepsAll near × (cells ≡ length sources * places_of near) × AreNodes n sources

-- the reason for refusing such rows. Places come before lengths, and lengths before nodes
abbrev pub IsRefusalOfCells : ℕ → Option Asked → List ℕ → ℕ → Refusal → Type 0
IsRefusalOfCells n near sources cells Refusal.NoMemory = ⊥
IsRefusalOfCells n near sources cells Refusal.NodeRange = KeepsAll near × (cells ≡ length sources * places_of near)
    × (AreNodes n sources → ⊥)
IsRefusalOfCells n near sources cells Refusal.Lengths = KeepsAll near × (cells ≡ length sources * places_of near → ⊥)
IsRefusalOfCells n near sources cells Refusal.TooLarge = ⊥
IsRefusalOfCells n near sources cells Refusal.NoPlaces = KeepsAll near → ⊥
IsRefusalOfCells n near sources cells Refusal.NoValues = ⊥

-- the reason for refusing values of so many lines. Lengths come before memory
abbrev pub IsRefusalOfValues : ℕ → ℕ → Refusal → Type 0
IsRefusalOfValues lines values Refusal.NoMemory = values ≡ lines
IsRefusalOfValues lines values Refusal.NodeRange = ⊥
IsRefusalOfValues lines values Refusal.Lengths = values ≢ lines
IsRefusalOfValues lines values Refusal.TooLarge = ⊥
IsRefusalOfValues lines values Refusal.NoPlaces = ⊥
IsRefusalOfValues lines values Refusal.NoValues = ⊥

-- arrays of these lengths have a place for each cell of a table
abbrev pub IsCellRoom : ℕ → ℕ → ℕ → ℕ → Type 0
IsCellRoom sources targets weights sums = (weights ≡ sources * targets) × (sums ≡ sources * targets)

-- a table of sums of the kept values can be asked for: there are some, and each cell has room
abbrev pub AreKeptSumLists : ℕ → Option (List ℕ) → List ℕ → List ℕ → ℕ → ℕ → Type 0
AreKeptSumLists n values sources targets weights sums = IsSome values
    × IsCellRoom (length sources) (length targets) weights sums × AreNodes n sources × AreNodes n targets

-- the reason for refusing such a table. Values come before lengths, and lengths before nodes
abbrev pub IsRefusalOfKeptSums : ℕ → Option (List ℕ) → List ℕ → List ℕ → ℕ → ℕ → Refusal → Type 0
IsRefusalOfKeptSums n values sources targets weights sums Refusal.NoMemory = ⊥
IsRefusalOfKeptSums n values sources targets weights sums Refusal.NodeRange = IsSome values
    × IsCellRoom (length sources) (length targets) weights sums × (AreNodes n sources × AreNodes n targets → ⊥)
IsRefusalOfKeptSums n values sources targets weights sums Refusal.Lengths = IsSome values
    × (IsCellRoom (length sources) (length targets) weights sums → ⊥)
IsRefusalOfKeptSums n values sources targets weights sums Refusal.TooLarge = ⊥
IsRefusalOfKeptSums n values sources targets weights sums Refusal.NoPlaces = ⊥
IsRefusalOfKeptSums n values sources targets weights sums Refusal.NoValues = values ≡ None

-- arrays of these lengths have an end for each source, and a weight, a place and a sum for each pair
abbrev pub AreSummedRowLengths : ℕ → ℕ → ℕ → ℕ → ℕ → Type 0
AreSummedRowLengths sources ends weights places sums = (sources ≡ ends) × (weights ≡ places) × (sums ≡ places)

-- near rows with sums of these sources can be asked for, with arrays of these lengths: values and places are kept
abbrev pub AreSummedRowSources : ℕ → Option (List ℕ) → Option Asked → List ℕ → ℕ → ℕ → ℕ → ℕ → Type 0
AreSummedRowSources n values near sources ends weights places sums = IsSome values
    × AreSummedRowLengths (length sources) ends weights places sums × IsSome near × AreNodes n sources

-- the reason for refusing them. Values come before lengths, these before the places that are kept, and these before nodes
abbrev pub IsRefusalOfSummedRows : ℕ → Option (List ℕ) → Option Asked → List ℕ → ℕ → ℕ → ℕ → ℕ → Refusal → Type 0
IsRefusalOfSummedRows n values near sources ends weights places sums Refusal.NoMemory = ⊥
IsRefusalOfSummedRows n values near sources ends weights places sums Refusal.NodeRange = IsSome values
    × AreSummedRowLengths (length sources) ends weights places sums × IsSome near × (AreNodes n sources → ⊥)
IsRefusalOfSummedRows n values near sources ends weights places sums Refusal.Lengths = IsSome values
    × (AreSummedRowLengths (length sources) ends weights places sums → ⊥)
IsRefusalOfSummedRows n values near sources ends weights places sums Refusal.TooLarge = ⊥
IsRefusalOfSummedRows n values near sources ends weights places sums Refusal.NoPlaces = IsSome values
    × AreSummedRowLengths (length sources) ends weights places sums × (near ≡ None)
IsRefusalOfSummedRows n values near sources ends weights places sums Refusal.NoValues = values ≡ None
