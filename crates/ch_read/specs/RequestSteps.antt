-- The clauses on one line of requests.
use Rattle.std.specs.Prelude.{◌≡◌, ℕ, ◌*◌, ◌<◌, ◌≤◌, Bool, true, false, List, [], ◌∷◌, ◌++◌, length, drop, slice_get, slice_index}
use Rattle.std.specs.Prelude.{Option, Some, None, option_map, position, ◌==◌, All, ⊤}
use Rattle.ch_graph.specs.declared.limits.TheConstants.{MOST_LISTED}
use Rattle.ch_work.specs.declared.limits.TheConstants.{MOST_CELLS}
use Rattle.ch_read.specs.declared.begun.Purpose.{Purpose}
use Rattle.ch_read.specs.declared.begun.Purpose.TheVariants.{Table as ForTable, Places as ForPlaces, Weights as ForWeights}
use Rattle.ch_read.specs.declared.new_weights.TheConstants.{MOST_NEW_WEIGHTS}
use Rattle.ch_read.specs.declared.request.Asked.{Asked}
use Rattle.ch_read.specs.declared.request_line.Limited.{Limited}
use Rattle.ch_read.specs.declared.request_fault.RequestFault.{RequestFault}
use Rattle.ch_read.specs.declared.request_fault.RequestError.{RequestError}
use Rattle.ch_read.specs.declared.request_fault.RequestError.TheVariants.{Fault, NoMemory}
use Rattle.ch_read.specs.declared.request_reader.Step.{Step}
use Rattle.ch_read.specs.declared.request_reader.Step.TheVariants.{Quiet, Given, UsedUp}
use Rattle.ch_read.specs.Words.{lines, words}
use Rattle.ch_read.specs.Reading.{capped_number}
use Rattle.ch_read.specs.Requests.{Begun, Standing, wanted, made, at_most_one, text_fault, line_after, MayCome, Gives, IsUsedUp}
use Rattle.ch_read.specs.Requests.{IsAsked, IsNewWeight}

-- lists of places have no sources
abbrev pub IsOf : Purpose → ℕ → Type 0
IsOf (ForTable within) sources = ⊤
IsOf (ForPlaces count) sources = sources ≡ 0
IsOf (ForWeights line) sources = ⊤

-- a request that is begun on a graph of n nodes: it has at most as many nodes and new weights as it wants, and its lists are
-- within the limits
pub record IsBegun (n : ℕ) (begun : Begun) : Type 0 where
  pub listed : All (λ v. v < n) begun.listed
  pub few : length begun.listed ≤ wanted begun
  pub sizes : (begun.sources ≤ MOST_LISTED) × (begun.targets ≤ MOST_LISTED)
  pub cells : begun.sources * begun.targets ≤ MOST_CELLS
  pub purpose : IsOf begun.purpose begun.sources
  pub weighed : All (IsNewWeight n) begun.weighed
  pub few_weights : length begun.weighed ≤ begun.weights
  pub most_weights : begun.weights ≤ MOST_NEW_WEIGHTS

-- the first two of the numbers, and the number at this place as a limit, if there is one; each is capped
abbrev pub IsLimited : ℕ → Option (List ℕ) → Limited → Type 0
IsLimited place numbers limited =
    (ns : List ℕ) × (numbers ≡ Some ns) × (limited.first ≡ capped_number (slice_index ns 0))
    × (limited.second ≡ capped_number (slice_index ns 1))
    × (limited.within ≡ option_map capped_number (slice_get ns place))

-- there is no fault, and the numbers give this value
abbrev pub PassesAs : {A : Type 0} → Option RequestFault → Option (List ℕ) → (List ℕ → A) → A → Type 0
PassesAs fault numbers from value = (fault ≡ None) × (ns : List ℕ) × (numbers ≡ Some ns) × (value ≡ from ns)

-- there is this fault
abbrev pub FailsAs : Option RequestFault → RequestFault → Type 0
FailsAs fault is = fault ≡ Some is

-- the line has no fault, and completes this request or none
abbrev pub Makes : ℕ → ℕ → Begun → Begun → List ℕ → Option Asked → Type 0
Makes n line old new text given =
    (text_fault n line old text ≡ None) × (made n line old (words text) ≡ record { given = at_most_one given; begun = new })

-- the error is this fault, or a lack of memory
abbrev pub IsLineError : Option RequestFault → RequestError → Type 0
IsLineError fault (Fault is) = fault ≡ Some is
IsLineError fault NoMemory = ⊤

-- for every continuation of the input: the first line is `text`, and takes this number of bytes; or no line is whole
abbrev pub IsLineAhead : Bool → List ℕ → List ℕ → ℕ → Type 0
IsLineAhead ended bytes text taken =
    ((more : List ℕ) → MayCome ended more → lines (bytes ++ more) ≡ text ∷ lines (drop taken bytes ++ more)) × (0 < taken)
    × (taken ≤ length bytes)

abbrev pub HasNoLine : Bool → List ℕ → Type 0
HasNoLine false bytes = position (λ b. b == 10) bytes ≡ None
HasNoLine true bytes = bytes ≡ []

-- the state after a line of `taken` bytes, with this request begun
abbrev pub advanced : Standing → Begun → ℕ → Standing
advanced s begun taken = record { nodes = s.nodes; line = line_after s.line; begun = begun; pending = drop taken s.pending }

-- the result of one line: it completed no request, or this one; or there was no whole line
abbrev pub IsStep : Bool → Standing → Standing → Step → Type 0
IsStep ended old new Quiet = Gives ended old new [] × (length new.pending < length old.pending)
IsStep ended old new (Given asked) = Gives ended old new (asked ∷ [])
IsStep ended old new UsedUp = (new ≡ old) × IsUsedUp ended old

abbrev pub IsGivenBy : ℕ → Step → Type 0
IsGivenBy n Quiet = ⊤
IsGivenBy n (Given asked) = IsAsked n asked
IsGivenBy n UsedUp = ⊤
