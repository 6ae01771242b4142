-- The results of the calls for C, and the state after them.
use Rattle.std.specs.Prelude.{◌≡◌, ◌⊎◌, ℕ, zero, suc, IsSome, ◌*◌, ◌<◌, ◌≤◌, List, [], length, take}
use Rattle.std.specs.Prelude.{Option, Some, None}
use Rattle.ch_graph.specs.declared.graph.GraphFault.{GraphFault}
use Rattle.ch_hierarchy.specs.declared.fault.CheckFault.{CheckFault}
use Rattle.ch_hierarchy.specs.Hierarchy.{LevelsAndLegs, nodes_of}
use Rattle.ch_read.specs.declared.fault.FaultKind.{FaultKind}
use Rattle.ch_text.specs.SaveText.{IsHierarchyText}
use Rattle.ch_engine.specs.declared.fault.OpenError.{OpenError}
use Rattle.ch_engine.specs.declared.fault.Refusal.{Refusal}
use Rattle.ch_engine.specs.declared.flows.Flowed.{Flowed}
use Rattle.ch_engine.specs.Flows.{AreFlowsWritten, AreTableFlowsWritten}
use Rattle.ch_hierarchy.specs.declared.direction.Direction.{Direction}
use Rattle.ch_hierarchy.specs.declared.direction.Direction.TheVariants.{To, From}
use Rattle.ch_engine.specs.declared.written.End.{End}
use Rattle.ch_engine.specs.declared.written.RowsEnd.{RowsEnd}
use Rattle.ch_engine.specs.declared.written.SumsEnd.{SumsEnd}
use Rattle.ch_engine.specs.Held.{Held, only, with_places, with_values, without_places}
use Rattle.ch_engine.specs.Lines.{IsOfSome, Lines}
use Rattle.ch_engine.specs.NearRows.{AreRowsWritten, StaysFrom, begin_of}
use Rattle.ch_engine.specs.NearSums.{AreSummedRowsWritten}
use Rattle.ch_engine.specs.NearTable.{AreCellsWritten, places_of}
use Rattle.ch_engine.specs.Opened.{IsOpened, IsOpenedLike, IsOpenedOfArrays, IsOpenedQuickly}
use Rattle.ch_engine.specs.Routes.{AreRoutesWritten}
use Rattle.ch_engine.specs.RouteSums.{ArePairSumsWritten}
use Rattle.ch_engine.specs.Sums.{AreSumsWritten}
use Rattle.ch_engine.specs.TableSums.{AreKeptSumsWritten}
use Rattle.ch_engine.specs.Cells.{ArePairCells, AreTableCells}
use Rattle.ch_engine.specs.Refusals.{AreFlowLengths, AreFlowTableLengths, IsRefusalOfFlowTable, IsRefusalOfFlows}
use Rattle.ch_engine.specs.Refusals.{AreNodes, ArePairs, ArePairSumLengths, ArePlaces, AreRouteLengths, AreRowSources}
use Rattle.ch_engine.specs.Refusals.{AreSumSources, AreTableLists, IsLikeError, IsOpenError, IsRefusalOfPairs}
use Rattle.ch_engine.specs.Refusals.{IsRefusalOfPairSums, IsRefusalOfPlaces, IsRefusalOfRoutes, IsRefusalOfRows}
use Rattle.ch_engine.specs.Refusals.{AreCellSources, IsRefusalOfCells, IsRefusalOfSums, IsRefusalOfSweep, IsRefusalOfTable}
use Rattle.ch_engine.specs.Refusals.{AreKeptSumLists, AreSummedRowSources, IsRefusalOfKeptSums, IsRefusalOfSummedRows}
use Rattle.ch_engine.specs.Refusals.{IsArraysOpenError, IsRefusalOfValues}
use Rattle.ch_c.specs.declared.faults.Fault.{Fault}
use Rattle.ch_c.specs.declared.status.TheConstants.{OK, NO_MEMORY, CLOSED, IS_OPEN, NODE_RANGE, LENGTHS, TOO_LARGE, TOO_SHORT}
use Rattle.ch_c.specs.declared.status.TheConstants.{BAD_GRAPH, BAD_SAVED, WRONG_SAVED, NO_PLACES, SUM_TOO_LARGE, OTHER_NODES}
use Rattle.ch_c.specs.declared.status.TheConstants.{FRESH_RANGE, NO_VALUES}

-- the status of a refusal
abbrev pub refusal_status : Refusal → ℕ
refusal_status Refusal.NoMemory = NO_MEMORY
refusal_status Refusal.NodeRange = NODE_RANGE
refusal_status Refusal.Lengths = LENGTHS
refusal_status Refusal.TooLarge = TOO_LARGE
refusal_status Refusal.NoPlaces = NO_PLACES
refusal_status Refusal.NoValues = NO_VALUES

-- the status of an error of opening
abbrev pub error_status : OpenError → ℕ
error_status OpenError.NoMemory = NO_MEMORY
error_status (OpenError.BadGraph f) = BAD_GRAPH
error_status (OpenError.BadSaved f) = BAD_SAVED
error_status (OpenError.WrongSaved f) = WRONG_SAVED
error_status OpenError.Lengths = LENGTHS
error_status (OpenError.BadArrays f) = BAD_GRAPH
error_status OpenError.OtherNodes = OTHER_NODES
error_status OpenError.FreshRange = FRESH_RANGE

-- the number of a kind of fault of a file's bytes
abbrev pub kind_number : FaultKind → ℕ
kind_number FaultKind.UnknownLine = 1
kind_number FaultKind.BadProblem = 2
kind_number FaultKind.SecondProblem = 3
kind_number FaultKind.NoProblem = 4
kind_number FaultKind.BadLine = 5
kind_number FaultKind.NodeRange = 6
kind_number FaultKind.Sum = 7
kind_number FaultKind.Size = 8
kind_number FaultKind.TooMany = 9
kind_number FaultKind.TooFew = 10

-- the fault of a hierarchy for its graph, as C sees it: the number of its kind, and the place
abbrev pub check_fault : CheckFault → Fault
check_fault CheckFault.Order = record { line = 0; place = 0; kind = 11 }
check_fault (CheckFault.Pair place) = record { line = 0; place = place; kind = 12 }
check_fault (CheckFault.Bound place) = record { line = 0; place = place; kind = 13 }
check_fault (CheckFault.Base place) = record { line = 0; place = place; kind = 14 }
check_fault (CheckFault.Middle place) = record { line = 0; place = place; kind = 15 }
check_fault (CheckFault.Arc place) = record { line = 0; place = place; kind = 16 }
check_fault (CheckFault.Lower node) = record { line = 0; place = node; kind = 17 }

-- the fault of a graph's arrays, as C sees it: the kind that a file with these arcs would have, and the place of the arc
abbrev pub arrays_fault : GraphFault → Fault
arrays_fault GraphFault.Size = record { line = 0; place = 0; kind = kind_number FaultKind.Size }
arrays_fault (GraphFault.NodeRange place) = record { line = 0; place = place; kind = kind_number FaultKind.NodeRange }
arrays_fault (GraphFault.Sum place) = record { line = 0; place = place; kind = kind_number FaultKind.Sum }

-- the fault of an error of opening, as C sees it
abbrev pub fault_of : OpenError → Fault
fault_of OpenError.NoMemory = record { line = 0; place = 0; kind = 0 }
fault_of (OpenError.BadGraph f) = record { line = f.line; place = 0; kind = kind_number f.kind }
fault_of (OpenError.BadSaved f) = record { line = f.line; place = 0; kind = kind_number f.kind }
fault_of (OpenError.WrongSaved f) = check_fault f
fault_of OpenError.Lengths = record { line = 0; place = 0; kind = 0 }
fault_of (OpenError.BadArrays f) = arrays_fault f
fault_of OpenError.OtherNodes = record { line = 0; place = 0; kind = 0 }
fault_of OpenError.FreshRange = record { line = 0; place = 0; kind = 0 }

-- a call with a closed handle returns CLOSED, and all else stays. With an open one, its hierarchy is right for some
-- graph, its lines are those of this graph's arcs, and this holds of its network
abbrev pub OfNetwork : Option Held → ℕ → Type 0 → (Held → Type 0) → Type 0
OfNetwork None status Stays Answers = (status ≡ CLOSED) × Stays
OfNetwork (Some held) status Stays Answers = IsOfSome held.hierarchy held.lines × Answers held

-- a call is done, or it is refused
abbrev pub IsOutcome : ℕ → Type 0 → (Refusal → Type 0) → Type 0
IsOutcome status Done Refused = ((status ≡ OK) × Done) ⊎ ((refusal : Refusal) × (status ≡ refusal_status refusal) × Refused refusal)

-- the distances of pairs of nodes are written, or refused
abbrev pub ArePairsAnswered : LevelsAndLegs → List ℕ → List ℕ → List ℕ → List ℕ → ℕ → Type 0
ArePairsAnswered H sources targets before after status =
    IsOutcome status (ArePairs (nodes_of H) sources targets (length before) × ArePairCells H sources targets after)
    (λ refusal. (after ≡ before) × IsRefusalOfPairs (nodes_of H) sources targets (length before) refusal)

-- the table of two lists of nodes is written, with the distances up to the limit, or refused
abbrev pub IsTableAnswered : LevelsAndLegs → ℕ → List ℕ → List ℕ → List ℕ → List ℕ → ℕ → Type 0
IsTableAnswered H limit sources targets before after status =
    IsOutcome status (AreTableLists (nodes_of H) sources targets (length before) × AreTableCells H (Some limit) sources targets
    after) (λ refusal. (after ≡ before) × IsRefusalOfTable (nodes_of H) sources targets (length before) refusal)

-- the length of the hierarchy's text is written, and the text if there is room. Behind it all is as before
abbrev pub IsTextTold : LevelsAndLegs → ℕ → List ℕ → List ℕ → ℕ → Type 0
IsTextTold H size before after status =
    (text : List ℕ) × IsHierarchyText H text × (size ≡ length text)
    × (((status ≡ OK) × (length text ≤ length after) × (take (length text) after ≡ text) × StaysFrom (length text) before after)
    ⊎ ((status ≡ TOO_SHORT) × (length before < length text) × (after ≡ before)))

-- the text is written so, or there is no memory for it
abbrev pub IsSaved : LevelsAndLegs → ℕ → ℕ → List ℕ → List ℕ → ℕ → Type 0
IsSaved H size_before size before after status =
    IsTextTold H size before after status ⊎ ((status ≡ NO_MEMORY) × (size ≡ size_before) × (after ≡ before))

-- an open handle stays; a closed one opens with a hierarchy that is right for the graph, or stays closed with an
-- error that is true of the bytes
abbrev pub IsOpening : List ℕ → List ℕ → Option Held → Option Held → Fault → Fault → ℕ → Type 0
IsOpening graph saved (Some held) after fault_before fault status = (status ≡ IS_OPEN) × (after ≡ Some held) × (fault ≡ fault_before)
IsOpening graph saved None after fault_before fault status =
    ((status ≡ OK) × ((H : LevelsAndLegs) × (lines : Lines) × (after ≡ Some (only H lines)) × IsOpened graph saved H lines)
    × (fault ≡ fault_before))
    ⊎ ((error : OpenError) × (status ≡ error_status error) × (after ≡ None) × (fault ≡ fault_of error) × IsOpenError graph saved error)

-- the same, with the graph of n nodes and of the arcs of three arrays
abbrev pub IsOpeningOfArrays : ℕ → List ℕ → List ℕ → List ℕ → List ℕ → Option Held → Option Held → Fault → Fault → ℕ → Type 0
IsOpeningOfArrays n tails heads weights saved (Some held) after fault_before fault status = (status ≡ IS_OPEN) × (after ≡ Some held)
    × (fault ≡ fault_before)
IsOpeningOfArrays n tails heads weights saved None after fault_before fault status =
    ((status ≡ OK) × ((H : LevelsAndLegs) × (lines : Lines) × (after ≡ Some (only H lines))
    × IsOpenedOfArrays n tails heads weights saved H lines) × (fault ≡ fault_before))
    ⊎ ((error : OpenError) × (status ≡ error_status error) × (after ≡ None) × (fault ≡ fault_of error)
    × IsArraysOpenError n tails heads weights saved error)

-- the same with a hierarchy in some order, of the bytes of a graph alone
abbrev pub IsOpeningQuickly : List ℕ → Option Held → Option Held → Fault → Fault → ℕ → Type 0
IsOpeningQuickly graph (Some held) after fault_before fault status = (status ≡ IS_OPEN) × (after ≡ Some held) × (fault ≡ fault_before)
IsOpeningQuickly graph None after fault_before fault status =
    ((status ≡ OK) × ((H : LevelsAndLegs) × (lines : Lines) × (after ≡ Some (only H lines)) × IsOpenedQuickly graph H lines)
    × (fault ≡ fault_before))
    ⊎ ((error : OpenError) × (status ≡ error_status error) × (after ≡ None) × (fault ≡ fault_of error) × IsOpenError graph [] error)

-- an open handle stays, and so does a closed one if the other handle is closed. Otherwise it opens with a hierarchy that is
-- right for the graph, in the order of the other handle's hierarchy, or stays closed with an error that is true of the bytes
abbrev pub IsOpeningLike : List ℕ → ℕ → Option Held → Option Held → Option Held → Fault → Fault → ℕ → Type 0
IsOpeningLike graph fresh other (Some held) after fault_before fault status = (status ≡ IS_OPEN) × (after ≡ Some held)
    × (fault ≡ fault_before)
IsOpeningLike graph fresh None None after fault_before fault status = (status ≡ CLOSED) × (after ≡ None) × (fault ≡ fault_before)
IsOpeningLike graph fresh (Some other) None after fault_before fault status =
    ((status ≡ OK) × ((H : LevelsAndLegs) × (lines : Lines) × (after ≡ Some (only H lines))
    × IsOpenedLike graph other.hierarchy fresh H lines) × (fault ≡ fault_before))
    ⊎ ((error : OpenError) × (status ≡ error_status error) × (after ≡ None) × (fault ≡ fault_of error)
    × IsLikeError graph (nodes_of other.hierarchy) fresh error)

-- an open handle is not opened again; a closed one gets the network and the values of an open one, without its places, or
-- there is no memory
abbrev pub IsSharing : Option Held → Option Held → Option Held → ℕ → Type 0
IsSharing network (Some held) after status = (status ≡ IS_OPEN) × (after ≡ Some held)
IsSharing None None after status = (status ≡ CLOSED) × (after ≡ None)
IsSharing (Some held) None after status = ((status ≡ OK) × (after ≡ Some (without_places held)))
    ⊎ ((status ≡ NO_MEMORY) × (after ≡ None))

-- the direction for a number: to the places for 0, and otherwise from them
abbrev pub direction_of : ℕ → Direction
direction_of zero = To
direction_of (suc n) = From

-- places are kept in place of those before, or refused
abbrev pub ArePlacesKept : ℕ → List ℕ → ℕ → ℕ → Held → Option Held → ℕ → Type 0
ArePlacesKept is_from places limit count held after status =
    ((status ≡ OK) × ArePlaces (nodes_of held.hierarchy) places
    × (after ≡ Some (with_places held
    (record { direction = direction_of is_from; targets = places; limit = Some limit; count = Some count }))))
    ⊎ ((refusal : Refusal) × (status ≡ refusal_status refusal) × (after ≡ Some held)
    × IsRefusalOfPlaces (nodes_of held.hierarchy) places refusal)

-- the rows of all nodes are made, if places are kept, or the sweep is refused
abbrev pub IsSwept : Held → ℕ → Type 0
IsSwept held status = IsOutcome status (IsSome held.near) (IsRefusalOfSweep held.near)

-- the status for the reason why no more rows or routes were written
abbrev pub end_status : End → ℕ
end_status End.All = OK
end_status End.NoRoom = TOO_SHORT
end_status End.NoMemory = NO_MEMORY

-- the arrays for near rows: the number of rows, the end of each, and the weights and places of their pairs
pub record Arrays : Type 0 where
  pub rows : ℕ
  pub ends : List ℕ
  pub weights : List ℕ
  pub places : List ℕ

-- behind so many rows and their pairs all is as before
abbrev pub IsRestKept : Arrays → Arrays → Type 0
IsRestKept before after = StaysFrom after.rows before.ends after.ends
    × StaysFrom (begin_of after.ends after.rows) before.weights after.weights
    × StaysFrom (begin_of after.ends after.rows) before.places after.places

-- near rows of nodes are written as far as there is room and memory, or they are refused and all is as before
abbrev pub AreRowsAnswered : Held → List ℕ → Arrays → Arrays → ℕ → Type 0
AreRowsAnswered held sources before after status =
    ((end : End) × (status ≡ end_status end)
    × AreRowSources (nodes_of held.hierarchy) held.near sources (length before.ends) (length before.weights) (length before.places)
    × AreRowsWritten held sources after.ends after.weights after.places (record { count = after.rows; end = end })
    × IsRestKept before after)
    ⊎ ((refusal : Refusal) × (status ≡ refusal_status refusal) × (after ≡ before)
    × IsRefusalOfRows (nodes_of held.hierarchy) held.near sources (length before.ends) (length before.weights)
    (length before.places) refusal)

-- the number of rows of a table over the kept places, and their cells
pub record CellArrays : Type 0 where
  pub rows : ℕ
  pub cells : List ℕ

-- rows of a table over the kept places are written as far as there is memory, or they are refused and all is as before. Behind
-- the rows that are written all is as before
abbrev pub AreCellsAnswered : Held → List ℕ → CellArrays → CellArrays → ℕ → Type 0
AreCellsAnswered held sources before after status =
    ((end : End) × (status ≡ end_status end)
    × AreCellSources (nodes_of held.hierarchy) held.near sources (length before.cells)
    × AreCellsWritten held sources after.cells (record { count = after.rows; end = end })
    × StaysFrom (after.rows * places_of held.near) before.cells after.cells)
    ⊎ ((refusal : Refusal) × (status ≡ refusal_status refusal) × (after ≡ before)
    × IsRefusalOfCells (nodes_of held.hierarchy) held.near sources (length before.cells) refusal)

-- the arrays for routes: the number of routes, the weight of each, the end of its nodes, the nodes, and the lines
pub record RouteArrays : Type 0 where
  pub routes : ℕ
  pub weights : List ℕ
  pub ends : List ℕ
  pub nodes : List ℕ
  pub lines : List ℕ

-- behind so many routes and their nodes all is as before
abbrev pub IsRouteRestKept : RouteArrays → RouteArrays → Type 0
IsRouteRestKept before after = StaysFrom after.routes before.weights after.weights × StaysFrom after.routes before.ends after.ends
    × StaysFrom (begin_of after.ends after.routes) before.nodes after.nodes
    × StaysFrom (begin_of after.ends after.routes) before.lines after.lines

-- routes of pairs of nodes are written as far as there is room and memory, or they are refused and all is as before
abbrev pub AreRoutesAnswered : Held → List ℕ → List ℕ → RouteArrays → RouteArrays → ℕ → Type 0
AreRoutesAnswered held sources targets before after status =
    ((end : End) × (status ≡ end_status end) × AreRouteLengths (length sources) (length targets) (length before.weights)
    (length before.ends) (length before.nodes) (length before.lines)
    × (AreNodes (nodes_of held.hierarchy) sources × AreNodes (nodes_of held.hierarchy) targets)
    × AreRoutesWritten held sources targets after.weights after.ends after.nodes after.lines
    (record { count = after.routes; end = end }) × IsRouteRestKept before after)
    ⊎ ((refusal : Refusal) × (status ≡ refusal_status refusal) × (after ≡ before)
    × IsRefusalOfRoutes (nodes_of held.hierarchy) sources targets (length before.weights) (length before.ends) (length before.nodes)
    (length before.lines) refusal)

-- the status for the reason why the sums of no more sources or pairs were written
abbrev pub sums_status : SumsEnd → ℕ
sums_status SumsEnd.All = OK
sums_status SumsEnd.TooLarge = SUM_TOO_LARGE
sums_status SumsEnd.NoMemory = NO_MEMORY

-- the number of sources whose sums are written, and the sums
pub record SumArrays : Type 0 where
  pub rows : ℕ
  pub sums : List ℕ

-- sums over near rows of nodes are written as far as they fit and there is memory, or they are refused and all is as
-- before. Behind the sums that are written all is as before
abbrev pub AreSumsAnswered : Held → List ℕ → List ℕ → List ℕ → SumArrays → SumArrays → ℕ → Type 0
AreSumsAnswered held sources values limits before after status =
    ((end : SumsEnd) × (status ≡ sums_status end)
    × AreSumSources (nodes_of held.hierarchy) held.near sources values (length limits) (length before.sums)
    × AreSumsWritten held sources values limits after.sums (record { count = after.rows; end = end })
    × StaysFrom (after.rows * length limits) before.sums after.sums)
    ⊎ ((refusal : Refusal) × (status ≡ refusal_status refusal) × (after ≡ before)
    × IsRefusalOfSums (nodes_of held.hierarchy) held.near sources values (length limits) (length before.sums) refusal)

-- the number of pairs whose sums are written, the weights of their routes, and the sums
pub record PairSumArrays : Type 0 where
  pub pairs : ℕ
  pub weights : List ℕ
  pub sums : List ℕ

-- sums along the routes of pairs of nodes are written as far as they fit and there is memory, or they are refused and all
-- is as before. Behind the pairs that are written all is as before
abbrev pub ArePairSumsAnswered : Held → List ℕ → List ℕ → List ℕ → PairSumArrays → PairSumArrays → ℕ → Type 0
ArePairSumsAnswered held sources targets values before after status =
    ((end : SumsEnd) × (status ≡ sums_status end) × ArePairSumLengths (length sources) (length targets) (length before.weights)
    (length before.sums) (length values) held.lines.count
    × (AreNodes (nodes_of held.hierarchy) sources × AreNodes (nodes_of held.hierarchy) targets)
    × ArePairSumsWritten held sources targets values after.weights after.sums (record { count = after.pairs; end = end })
    × (StaysFrom after.pairs before.weights after.weights × StaysFrom after.pairs before.sums after.sums))
    ⊎ ((refusal : Refusal) × (status ≡ refusal_status refusal) × (after ≡ before)
    × IsRefusalOfPairSums (nodes_of held.hierarchy) held.lines.count sources targets (length values) (length before.weights)
    (length before.sums) refusal)

-- values of the lines are kept in place of those before, or refused
abbrev pub AreValuesKept : List ℕ → Held → Option Held → ℕ → Type 0
AreValuesKept values held after status =
    ((status ≡ OK) × (length values ≡ held.lines.count) × (after ≡ Some (with_values held values)))
    ⊎ ((refusal : Refusal) × (status ≡ refusal_status refusal) × (after ≡ Some held)
    × IsRefusalOfValues held.lines.count (length values) refusal)

-- sums of the kept values along the routes of a table's cells, as far as they fit and there is memory, or they are refused and all
-- is as before. Behind the cells that are written all is as before
abbrev pub AreKeptSumsAnswered : Held → List ℕ → List ℕ → PairSumArrays → PairSumArrays → ℕ → Type 0
AreKeptSumsAnswered held sources targets before after status =
    ((end : SumsEnd) × (status ≡ sums_status end)
    × AreKeptSumLists (nodes_of held.hierarchy) held.values sources targets (length before.weights) (length before.sums)
    × AreKeptSumsWritten held sources targets after.weights after.sums (record { count = after.pairs; end = end })
    × (StaysFrom after.pairs before.weights after.weights × StaysFrom after.pairs before.sums after.sums))
    ⊎ ((refusal : Refusal) × (status ≡ refusal_status refusal) × (after ≡ before)
    × IsRefusalOfKeptSums (nodes_of held.hierarchy) held.values sources targets (length before.weights) (length before.sums) refusal)

-- the status for the reason why no more near rows were written with their sums
abbrev pub rows_status : RowsEnd → ℕ
rows_status RowsEnd.All = OK
rows_status RowsEnd.NoRoom = TOO_SHORT
rows_status RowsEnd.TooLarge = SUM_TOO_LARGE
rows_status RowsEnd.NoMemory = NO_MEMORY

-- the arrays for near rows, and the sums of their pairs
pub record SummedArrays : Type 0 where
  pub rows : Arrays
  pub sums : List ℕ

-- near rows with sums of the kept values are written as far as there is room and memory, or they are refused and all is as before
abbrev pub AreSummedRowsAnswered : Held → List ℕ → SummedArrays → SummedArrays → ℕ → Type 0
AreSummedRowsAnswered held sources before after status =
    ((end : RowsEnd) × (status ≡ rows_status end)
    × AreSummedRowSources (nodes_of held.hierarchy) held.values held.near sources (length before.rows.ends)
    (length before.rows.weights) (length before.rows.places) (length before.sums)
    × AreSummedRowsWritten held sources after.rows.ends after.rows.weights after.rows.places after.sums
    (record { count = after.rows.rows; end = end })
    × IsRestKept before.rows after.rows × StaysFrom (begin_of after.rows.ends after.rows.rows) before.sums after.sums)
    ⊎ ((refusal : Refusal) × (status ≡ refusal_status refusal) × (after ≡ before)
    × IsRefusalOfSummedRows (nodes_of held.hierarchy) held.values held.near sources (length before.rows.ends)
    (length before.rows.weights) (length before.rows.places) (length before.sums) refusal)

-- the status for what became of flows
abbrev pub flowed_status : Flowed → ℕ
flowed_status (Flowed.All missed) = OK
flowed_status Flowed.TooLarge = SUM_TOO_LARGE
flowed_status Flowed.NoMemory = NO_MEMORY

-- the number of pairs without a route, which is written with the flows
abbrev pub IsMissedTold : Flowed → ℕ → ℕ → Type 0
IsMissedTold (Flowed.All missed) before after = after ≡ missed
IsMissedTold Flowed.TooLarge before after = after ≡ before
IsMissedTold Flowed.NoMemory before after = after ≡ before

-- the number of pairs without a route, and the flows on all lines
pub record FlowArrays : Type 0 where
  pub missed : ℕ
  pub flows : List ℕ

-- the flows of pairs of nodes are written on all lines; or one is too large, or there is no memory, or they are refused, and
-- all is as before
abbrev pub AreFlowsAnswered : Held → List ℕ → List ℕ → List ℕ → FlowArrays → FlowArrays → ℕ → Type 0
AreFlowsAnswered held sources targets demands before after status =
    ((flowed : Flowed) × (status ≡ flowed_status flowed)
    × AreFlowLengths (length sources) (length targets) (length demands) (length before.flows) held.lines.count
    × (AreNodes (nodes_of held.hierarchy) sources × AreNodes (nodes_of held.hierarchy) targets)
    × AreFlowsWritten held sources targets demands before.flows after.flows flowed × IsMissedTold flowed before.missed after.missed)
    ⊎ ((refusal : Refusal) × (status ≡ refusal_status refusal) × (after ≡ before)
    × IsRefusalOfFlows (nodes_of held.hierarchy) held.lines.count sources targets (length demands) (length before.flows) refusal)

-- the same of the cells of a table
abbrev pub AreTableFlowsAnswered : Held → List ℕ → List ℕ → List ℕ → FlowArrays → FlowArrays → ℕ → Type 0
AreTableFlowsAnswered held sources targets demands before after status =
    ((flowed : Flowed) × (status ≡ flowed_status flowed)
    × AreFlowTableLengths (length sources) (length targets) (length demands) (length before.flows) held.lines.count
    × (AreNodes (nodes_of held.hierarchy) sources × AreNodes (nodes_of held.hierarchy) targets)
    × AreTableFlowsWritten held sources targets demands before.flows after.flows flowed × IsMissedTold flowed before.missed after.missed)
    ⊎ ((refusal : Refusal) × (status ≡ refusal_status refusal) × (after ≡ before)
    × IsRefusalOfFlowTable (nodes_of held.hierarchy) held.lines.count sources targets (length demands) (length before.flows) refusal)
