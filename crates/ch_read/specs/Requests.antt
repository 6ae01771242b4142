-- The requests of a stream: queries, tables with their lists, places and near rows, and the new weights between them.
-- Each is given as soon as it is whole.
use Rattle.std.specs.Prelude.{◌≡◌, ℕ, ◌+◌, ◌*◌, ◌-◌, ◌<◌, ◌≤◌, nat_le, Bool, true, false, ◌&&◌, if◌then◌else◌, List, [], ◌∷◌, ◌++◌}
use Rattle.std.specs.Prelude.{length, take, drop, slice_index, slice_get, ◌==◌, Option, Some, None, is_some, is_none, option_map}
use Rattle.std.specs.Prelude.{codes, All, position, ⊤}
use Rattle.std.specs.Option.{option_map_or, option_or}
use Rattle.ch_graph.specs.declared.limits.TheConstants.{MOST_LISTED, MOST_WEIGHT}
use Rattle.ch_work.specs.declared.limits.TheConstants.{MOST_CELLS}
use Rattle.ch_read.specs.declared.fault.FaultKind.TheVariants.{UnknownLine, BadLine, NodeRange, Sum, Size, TooFew}
use Rattle.ch_read.specs.declared.form.Form.TheVariants.{Graph, Queries, Nodes}
use Rattle.ch_read.specs.declared.form.Part.TheVariants.{First}
use Rattle.ch_read.specs.declared.form.Heading.{Heading}
use Rattle.ch_read.specs.declared.begun.Purpose.{Purpose}
use Rattle.ch_read.specs.declared.begun.Purpose.TheVariants.{Table as ForTable, Places as ForPlaces, Weights as ForWeights}
use Rattle.ch_read.specs.declared.new_weights.TheConstants.{MOST_NEW_WEIGHTS}
use Rattle.ch_read.specs.declared.new_weights.NewWeight.{NewWeight}
use Rattle.ch_read.specs.declared.request.TheConstants.{MOST_LINE}
use Rattle.ch_read.specs.declared.request.Asked.{Asked}
use Rattle.ch_read.specs.declared.request.Asked.TheVariants.{Request as Asks, Weights}
use Rattle.ch_read.specs.declared.request.Request.{Request}
use Rattle.ch_read.specs.declared.request.Request.TheVariants.{Query, Route, Table, Places, Near}
use Rattle.ch_read.specs.declared.request_fault.RequestFault.{RequestFault}
use Rattle.ch_read.specs.declared.request_fault.RequestFault.TheVariants.{Line, Cells}
use Rattle.ch_read.specs.declared.request_fault.RequestError.{RequestError}
use Rattle.ch_read.specs.declared.request_fault.RequestError.TheVariants.{Fault, NoMemory}
use Rattle.ch_read.specs.RequestLists.{TwoLists, PlaceList, WeightList}
use Rattle.ch_read.specs.Words.{words, lines}
use Rattle.ch_read.specs.Forms.{numbers_after, item}
use Rattle.ch_read.specs.Checks.{Check, passes, is_node, is_skipped, begins_with, item_checks, first_failing}
use Rattle.ch_read.specs.Names.{pair_from, node_from}
use Rattle.ch_read.specs.Reading.{capped_number}

-- a request whose lists are being read: their purpose, the numbers of sources and targets, and the nodes listed so far,
-- sources first; places are targets without sources. Or new weights: their number, and those listed so far
pub record Begun : Type 0 where
  pub purpose : Purpose
  pub sources : ℕ
  pub targets : ℕ
  pub listed : List ℕ
  pub weights : ℕ
  pub weighed : List NewWeight

-- no request is begun
abbrev pub nothing : Begun
nothing = record { purpose = ForTable None; sources = 0; targets = 0; listed = []; weights = 0; weighed = [] }

-- the number of nodes in its lists
abbrev pub wanted : Begun → ℕ
wanted begun = begun.sources + begun.targets

-- the lists have all their nodes, or all their new weights
abbrev pub is_whole : Begun → Bool
is_whole begun = nat_le (wanted begun) (length begun.listed) && nat_le begun.weights (length begun.weighed)

-- the numbers of a line of exactly these words and `count` numbers, and then possibly a limit
abbrev pub numbers_and_limit : List (List ℕ) → ℕ → List (List ℕ) → Option (List ℕ)
numbers_and_limit front count ws = option_or (numbers_after front count ws) (numbers_after front (count + 1) ws)

-- the numbers of a line `r S T`
abbrev pub route_numbers : List (List ℕ) → Option (List ℕ)
route_numbers ws = numbers_after (codes "r" ∷ []) 2 ws

-- the numbers of a line `t K L` or `t K L R`
abbrev pub table_numbers : List (List ℕ) → Option (List ℕ)
table_numbers ws = numbers_and_limit (codes "t" ∷ []) 2 ws

-- the numbers of a line `p L K`
abbrev pub places_numbers : List (List ℕ) → Option (List ℕ)
places_numbers ws = numbers_after (codes "p" ∷ []) 2 ws

-- the numbers of a line `w K`
abbrev pub weights_numbers : List (List ℕ) → Option (List ℕ)
weights_numbers ws = numbers_after (codes "w" ∷ []) 1 ws

-- the numbers of a line `n S` or `n S R`
abbrev pub near_numbers : List (List ℕ) → Option (List ℕ)
near_numbers ws = numbers_and_limit (codes "n" ∷ []) 1 ws

-- the limit is at most the greatest distance, or there is none
abbrev pub is_limit : Option ℕ → Bool
is_limit None = true
is_limit (Some most) = nat_le most MOST_WEIGHT

-- two numbers within the limit of a list: the sizes of two lists, or the number of places and the number in a row
abbrev pub are_listable : List ℕ → Bool
are_listable ns = nat_le (slice_index ns 0) MOST_LISTED && nat_le (slice_index ns 1) MOST_LISTED

-- two lists that do not make too many cells
abbrev pub are_few : List ℕ → Bool
are_few ns = nat_le (slice_index ns 0 * slice_index ns 1) MOST_CELLS

-- the heading of a file of `count` items on a graph of n nodes
abbrev pub declaring : ℕ → ℕ → Option Heading
declaring n count = Some (record { nodes = n; items = record { first = count; second = 0 } })

-- a request may begin if the lists before have all their nodes; a query, with its route or without, is judged as the
-- only item of a query file
abbrev pub query_checks : ℕ → Begun → Option (List ℕ) → List Check
query_checks n begun numbers = (is_whole begun, TooFew) ∷ item_checks (Queries n) First (declaring n 1) 0 numbers

abbrev pub table_checks : Begun → Option (List ℕ) → List Check
table_checks begun numbers =
    (is_whole begun, TooFew) ∷ (is_some numbers, BadLine) ∷ (passes are_listable numbers, Size)
    ∷ (passes (λ ns. is_limit (slice_get ns 2)) numbers, Sum) ∷ []

abbrev pub places_checks : Begun → Option (List ℕ) → List Check
places_checks begun numbers = (is_whole begun, TooFew) ∷ (is_some numbers, BadLine) ∷ (passes are_listable numbers, Size) ∷ []

abbrev pub weights_checks : Begun → Option (List ℕ) → List Check
weights_checks begun numbers =
    (is_whole begun, TooFew) ∷ (is_some numbers, BadLine)
    ∷ (passes (λ ns. nat_le (slice_index ns 0) MOST_NEW_WEIGHTS) numbers, Size) ∷ []

abbrev pub near_checks : ℕ → Begun → Option (List ℕ) → List Check
near_checks n begun numbers =
    (is_whole begun, TooFew)
    ∷ (is_some numbers, BadLine)
    ∷ (passes (λ ns. is_node n (slice_index ns 0)) numbers, NodeRange)
    ∷ (passes (λ ns. is_limit (slice_get ns 1)) numbers, Sum)
    ∷ []

-- a listed node is judged as the next item of a list with the wanted number of nodes
abbrev pub listed_checks : ℕ → Begun → Option (List ℕ) → List Check
listed_checks n begun numbers = item_checks (Nodes n) First (declaring n (wanted begun)) (length begun.listed) numbers

-- a new weight is judged as the next arc of a graph with the wanted number of arcs
abbrev pub weight_checks : ℕ → Begun → Option (List ℕ) → List Check
weight_checks n begun numbers = item_checks Graph First (declaring n begun.weights) (length begun.weighed) numbers

-- the fault of the first check of this line that fails
abbrev pub failing_at : ℕ → List Check → Option RequestFault
failing_at line checks = option_map (λ kind. Line (record { line = line; kind = kind })) (first_failing checks)

-- the cells of a table are judged last
abbrev pub table_fault : ℕ → Begun → Option (List ℕ) → Option RequestFault
table_fault line begun numbers =
    option_or (failing_at line (table_checks begun numbers)) (if passes are_few numbers then None else Some (Cells line))

-- the fault of a line of these words on a graph of n nodes, after this was begun
abbrev pub request_fault : ℕ → ℕ → Begun → List (List ℕ) → Option RequestFault
request_fault n line begun ws =
    if is_skipped ws then None
    else if begins_with ws (codes "q") then failing_at line (query_checks n begun (item (Queries n) First ws))
    else if begins_with ws (codes "r") then failing_at line (query_checks n begun (route_numbers ws))
    else if begins_with ws (codes "n") then failing_at line (near_checks n begun (near_numbers ws))
    else if begins_with ws (codes "w") then failing_at line (weights_checks begun (weights_numbers ws))
    else if begins_with ws (codes "a") then failing_at line (weight_checks n begun (item Graph First ws))
    else if begins_with ws (codes "t") then table_fault line begun (table_numbers ws)
    else if begins_with ws (codes "p") then failing_at line (places_checks begun (places_numbers ws))
    else if begins_with ws (codes "s") then failing_at line (listed_checks n begun (item (Nodes n) First ws))
    else failing_at line ((false, UnknownLine) ∷ [])

-- the fault of this line, also of a comment: a line of too many bytes is bad, with any words
abbrev pub text_fault : ℕ → ℕ → Begun → List ℕ → Option RequestFault
text_fault n line begun text =
    if nat_le (length text) MOST_LINE then request_fault n line begun (words text) else failing_at line ((false, BadLine) ∷ [])

-- the fault of the end, which counts as one more line: lists that do not have all their nodes have too few
abbrev pub end_of_requests : ℕ → Begun → Option RequestFault
end_of_requests line begun = failing_at line ((is_whole begun, TooFew) ∷ [])

-- the result of a line: the requests that it completes, and the request that is begun after it
pub record Made : Type 0 where
  pub given : List Asked
  pub begun : Begun

abbrev pub none_made : Begun → Made
none_made begun = record { given = []; begun = begun }

-- the request of these lists, or the new weights
abbrev pub asked_by : Purpose → ℕ → List ℕ → List NewWeight → Asked
asked_by (ForTable within) sources listed weighed =
    Asks (Table (record { sources = take sources listed; targets = drop sources listed; within = within }))
asked_by (ForPlaces count) sources listed weighed = Asks (Places (record { nodes = listed; count = count }))
asked_by (ForWeights line) sources listed weighed = Weights (record { line = line; listed = weighed })

-- the request that is begun is given as soon as it has its nodes, or its new weights
abbrev pub asked_of : Begun → Asked
asked_of begun = asked_by begun.purpose begun.sources begun.listed begun.weighed

abbrev pub settled : Begun → Made
settled begun = if is_whole begun then record { given = asked_of begun ∷ []; begun = nothing } else none_made begun

abbrev pub query_from : ℕ × ℕ → Request
query_from pair = Query pair.0 pair.1

abbrev pub route_from : ℕ × ℕ → Request
route_from pair = Route pair.0 pair.1

-- the near row of S, within R if there is an R
abbrev pub row_from : List ℕ → Request
row_from ns = Near (node_from ns) (slice_get ns 1)

-- a table of K sources and L targets, within R if there is an R
abbrev pub table_from : List ℕ → Begun
table_from ns = record {
  purpose = ForTable (slice_get ns 2);
  sources = slice_index ns 0;
  targets = slice_index ns 1;
  listed = [];
  weights = 0;
  weighed = [];
}

-- a number of places, or `None` for 0, which stands for all
abbrev pub count_or_all : ℕ → Option ℕ
count_or_all k = if k == 0 then None else Some k

-- L places, with K in a row
abbrev pub places_from : List ℕ → Begun
places_from ns = record {
  purpose = ForPlaces (count_or_all (slice_index ns 1));
  sources = 0;
  targets = slice_index ns 0;
  listed = [];
  weights = 0;
  weighed = [];
}

-- K new weights, whose list begins at this line
abbrev pub weights_from : ℕ → List ℕ → Begun
weights_from line ns =
    record { purpose = ForWeights line; sources = 0; targets = 0; listed = []; weights = slice_index ns 0; weighed = [] }

-- the new weight W of each arc from U to V, with its line
abbrev pub weight_from : ℕ → List ℕ → NewWeight
weight_from line ns =
    record { from = slice_index ns 0 - 1; to = slice_index ns 1 - 1; weight = slice_index ns 2; line = line }

abbrev pub with_node : Begun → ℕ → Begun
with_node begun node = record {
  purpose = begun.purpose;
  sources = begun.sources;
  targets = begun.targets;
  listed = begun.listed ++ node ∷ [];
  weights = begun.weights;
  weighed = begun.weighed;
}

abbrev pub with_weight : Begun → NewWeight → Begun
with_weight begun weight = record {
  purpose = begun.purpose;
  sources = begun.sources;
  targets = begun.targets;
  listed = begun.listed;
  weights = begun.weights;
  weighed = begun.weighed ++ weight ∷ [];
}

-- the result of this line of these words, if it has no fault
abbrev pub made : ℕ → ℕ → Begun → List (List ℕ) → Made
made n line begun ws =
    if is_skipped ws then none_made begun
    else if begins_with ws (codes "q") then option_map_or (λ ns. record { given = Asks (query_from (pair_from ns)) ∷ []; begun = begun })
    (item (Queries n) First ws) (none_made begun)
    else if begins_with ws (codes "r") then option_map_or (λ ns. record { given = Asks (route_from (pair_from ns)) ∷ []; begun = begun })
    (route_numbers ws) (none_made begun)
    else if begins_with ws (codes "n") then option_map_or (λ ns. record { given = Asks (row_from ns) ∷ []; begun = begun })
    (near_numbers ws) (none_made begun)
    else if begins_with ws (codes "w") then option_map_or (λ ns. settled (weights_from line ns)) (weights_numbers ws) (none_made begun)
    else if begins_with ws (codes "a") then option_map_or (λ ns. settled (with_weight begun (weight_from line ns)))
    (item Graph First ws) (none_made begun)
    else if begins_with ws (codes "t") then option_map_or (λ ns. settled (table_from ns)) (table_numbers ws) (none_made begun)
    else if begins_with ws (codes "p") then option_map_or (λ ns. settled (places_from ns)) (places_numbers ws) (none_made begun)
    else option_map_or (λ ns. settled (with_node begun (node_from ns))) (item (Nodes n) First ws) (none_made begun)

-- the requests and the fault of some bytes: the requests that are whole before the first fault, and that fault, if
-- there is one
pub record Told : Type 0 where
  pub given : List Asked
  pub fault : Option RequestFault

abbrev pub after_these : List Asked → Told → Told
after_these first told = record { given = first ++ told.given; fault = told.fault }

abbrev pub stopping : Option RequestFault → Told
stopping fault = record { given = []; fault = fault }

-- the number of the next line; lines count from 1, up to the greatest number of 64 bits
abbrev pub line_after : ℕ → ℕ
line_after line = capped_number (line + 1)

-- the requests and the fault of these lines, after `line` lines and with this request begun
abbrev pub told : ℕ → ℕ → Begun → List (List ℕ) → Told
told n line begun [] = stopping (end_of_requests (line_after line) begun)
told n line begun (text ∷ more) =
    if is_none (text_fault n (line_after line) begun text)
    then after_these (made n (line_after line) begun (words text)).given
    (told n (line_after line) (made n (line_after line) begun (words text)).begun more)
    else stopping (text_fault n (line_after line) begun text)

-- the requests of a stream on a graph of n nodes, and its fault
abbrev pub told_by : ℕ → List ℕ → Told
told_by n bytes = told n 0 nothing (lines bytes)

-- the state of a reader: the number of lines that were read, the request that they began, and the bytes after them
pub record Standing : Type 0 where
  pub nodes : ℕ
  pub line : ℕ
  pub begun : Begun
  pub pending : List ℕ

-- the state of a reader that was fed nothing
abbrev pub starting : ℕ → Standing
starting n = record { nodes = n; line = 0; begun = nothing; pending = [] }

-- the state after these bytes were fed: they come after the pending ones
abbrev pub fed : Standing → List ℕ → Standing
fed s bytes = record { nodes = s.nodes; line = s.line; begun = s.begun; pending = s.pending ++ bytes }

-- the requests and the fault that are ahead, if these bytes follow
abbrev pub ahead : Standing → List ℕ → Told
ahead s more = told s.nodes s.line s.begun (lines (s.pending ++ more))

-- after the end of the input nothing follows
abbrev pub MayCome : Bool → List ℕ → Type 0
MayCome ended more = ended ≡ true → more ≡ []

-- for every continuation of the input: the requests and the fault that were ahead are these requests and then those
-- that are ahead now
abbrev pub Gives : Bool → Standing → Standing → List Asked → Type 0
Gives ended old new given = (more : List ℕ) → MayCome ended more → ahead old more ≡ after_these given (ahead new more)

-- for every continuation of the input: the requests and the fault of the bytes so far are the requests that were given
-- and then those that are ahead
abbrev pub HasGiven : Bool → ℕ → List ℕ → Standing → List Asked → Type 0
HasGiven ended n bytes s given = (more : List ℕ) → MayCome ended more → told_by n (bytes ++ more) ≡ after_these given (ahead s more)

-- no line is whole in the pending bytes, and these fit into a line. At the end no byte is left, and the lists
-- have all their nodes
abbrev pub IsUsedUp : Bool → Standing → Type 0
IsUsedUp false s = (position (λ b. b == 10) s.pending ≡ None) × (length s.pending ≤ MOST_LINE)
IsUsedUp true s = (s.pending ≡ []) × (end_of_requests (line_after s.line) s.begun ≡ None)

-- this fault is next, with no request before it
abbrev pub IsStopped : Bool → Standing → RequestFault → Type 0
IsStopped ended old fault = (more : List ℕ) → MayCome ended more → ahead old more ≡ record { given = []; fault = Some fault }

-- the error is the next fault, or a lack of memory
abbrev pub IsErrorAhead : Bool → Standing → RequestError → Type 0
IsErrorAhead ended old (Fault fault) = IsStopped ended old fault
IsErrorAhead ended old NoMemory = ⊤

-- lists of nodes of the graph, within the limits, that do not make too many cells
pub record AreTwoLists (n : ℕ) (lists : TwoLists) : Type 0 where
  pub sources : All (λ v. v < n) lists.sources
  pub targets : All (λ v. v < n) lists.targets
  pub sizes : (length lists.sources ≤ MOST_LISTED) × (length lists.targets ≤ MOST_LISTED)
  pub cells : length lists.sources * length lists.targets ≤ MOST_CELLS

-- places at nodes of the graph, within the limit of a list
pub record ArePlaces (n : ℕ) (places : PlaceList) : Type 0 where
  pub each : All (λ v. v < n) places.nodes
  pub size : length places.nodes ≤ MOST_LISTED

-- a new weight of arcs between nodes of a graph of n nodes, within the limits of an arc
pub record IsNewWeight (n : ℕ) (new : NewWeight) : Type 0 where
  pub ends : (new.from < n) × (new.to < n)
  pub weight : n * new.weight ≤ MOST_WEIGHT

-- new weights, within the limit of their list
pub record AreNewWeights (n : ℕ) (new : WeightList) : Type 0 where
  pub each : All (IsNewWeight n) new.listed
  pub size : length new.listed ≤ MOST_NEW_WEIGHTS

-- a request on a graph of n nodes
abbrev pub IsRequest : ℕ → Request → Type 0
IsRequest n (Query s t) = (s < n) × (t < n)
IsRequest n (Route s t) = (s < n) × (t < n)
IsRequest n (Table lists) = AreTwoLists n lists
IsRequest n (Places places) = ArePlaces n places
IsRequest n (Near s within) = s < n

-- a request or new weights, on a graph of n nodes
abbrev pub IsAsked : ℕ → Asked → Type 0
IsAsked n (Asks request) = IsRequest n request
IsAsked n (Weights new) = AreNewWeights n new

-- the one of these or none
abbrev pub at_most_one : Option Asked → List Asked
at_most_one None = []
at_most_one (Some asked) = asked ∷ []

-- what was given, if anything, is on a graph of n nodes
abbrev pub IsGiven : ℕ → Option Asked → Type 0
IsGiven n None = ⊤
IsGiven n (Some asked) = IsAsked n asked
