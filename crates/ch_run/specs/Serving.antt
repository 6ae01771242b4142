-- The promises of the parts of a run over requests.
use Rattle.std.specs.Prelude.{◌≡◌, ℕ, ◌+◌, ◌<◌, ◌≤◌, Bool, true, false, if◌then◌else◌, List, [], ◌∷◌, ◌++◌, length, take, map, All}
use Rattle.std.specs.Prelude.{Option, Some, None, is_some, Result, Ok, Err, MatchOption, MatchResult, ⊤}
use Rattle.ch_hierarchy.specs.Hierarchy.{nodes_of}
use Rattle.ch_hierarchy.specs.declared.direction.Direction.{Direction}
use Rattle.ch_hierarchy.specs.Direction.{facing}
use Rattle.ch_rows.specs.Near.{Wanted}
use Rattle.ch_read.specs.declared.request.Asked.{Asked}
use Rattle.ch_read.specs.declared.request.Asked.TheVariants.{Weights}
use Rattle.ch_read.specs.declared.request.Request.{Request}
use Rattle.ch_read.specs.declared.request.Request.TheVariants.{Near}
use Rattle.ch_read.specs.RequestLists.{PlaceList, WeightList}
use Rattle.ch_read.specs.declared.request_fault.RequestFault.TheVariants.{Line, Cells}
use Rattle.ch_read.specs.declared.request_fault.RequestError.{RequestError}
use Rattle.ch_read.specs.declared.request_fault.RequestError.TheVariants.{Fault, NoMemory}
use Rattle.ch_read.specs.Reading.{capped_number}
use Rattle.ch_read.specs.Requests.{AreNewWeights, ArePlaces, IsErrorAhead, IsUsedUp, MayCome, Standing, after_these, ahead, query_from}
use Rattle.ch_read.specs.Requests.{route_from, told_by}
use Rattle.ch_run.specs.declared.fault.RunFault.{RunFault}
use Rattle.ch_run.specs.declared.run.batch.Then.{Then}
use Rattle.ch_run.specs.declared.run.batch.Then.TheVariants.{More, NewWeights, Nothing, Stop}
use Rattle.ch_run.specs.declared.run.answering.Answering.{Answering}
use Rattle.ch_run.specs.declared.run.answering.Room.{Room}
use Rattle.ch_run.specs.declared.fault.Which.{Which}
use Rattle.ch_run.specs.Loaded.{GraphAndHierarchy, IsRight}
use Rattle.ch_job.specs.declared.options.Options.{Options}
use Rattle.ch_run.specs.Ask.{AreAnswered, IsTextOfRequest, Rules, Serves, Situation, TellsFirst, TextOf, TookAnswers, failed_write}
use Rattle.ch_run.specs.Ask.{no_places, places_after, rules_of}
use Rattle.ch_run.specs.Frames.{IsCustomizedBy, OrderAndTopology}
use Rattle.ch_run.specs.Run.{reading}
use Rattle.ch_text.specs.Moves.{Gave, GaveAll, Took, TookUntilFault}
use Rattle.ch_text.specs.declared.device.DeviceFault.{DeviceFault}

-- these bytes were read, and the run ends in this fault after what it answered, whatever bytes may be left
pub record Ends {S : Type 0} (rules : Rules) (gives : S → List ℕ → Result ℕ DeviceFault → S → Type 0) (n : ℕ) (ended : Bool)
    (read : List ℕ) (first : Situation) (old new : S) (fault : RunFault) : Type 0 where
  pub answered : List Asked
  pub last : Situation
  pub told : (left : List ℕ) → MayCome ended left → TellsFirst {T = Unit} rules last answered (Err fault) (told_by n (read ++ left))
  pub output : TookAnswers rules gives first last old new (failed_write {T = Unit} (Err fault)) answered

-- the output took the answers to what was given, `written` bytes, and this is the situation after it
pub record IsAnswered {S : Type 0} (rules : Rules) (gives : S → List ℕ → Result ℕ DeviceFault → S → Type 0) (first : Situation)
    (old new : S) (given : List Asked) (held : Situation) (written : ℕ) : Type 0 where
  pub output : TookAnswers rules gives first held old new None given
  pub count : written ≡ capped_number (length output.text)

-- a reader of these bytes is in this standing. What it gave is answered up to what waits
pub record HasAnswered {S : Type 0} (rules : Rules) (gives : S → List ℕ → Result ℕ DeviceFault → S → Type 0) (n : ℕ)
    (ended : Bool) (read : List ℕ) (reader : Standing) (waiting : List Asked) (first : Situation) (old new : S) (held : Situation)
    (written : ℕ) : Type 0 where
  pub answered : List Asked
  pub told : (left : List ℕ) → MayCome ended left →
      told_by n (read ++ left) ≡ after_these answered (after_these waiting (ahead reader left))
  pub is : IsAnswered rules gives first old new answered held written

-- a call answers requests: whatever was answered before it, this waits before it and that after it. Or the run ends in its fault
abbrev pub GoesOn : {T S : Type 0} → Rules → (gives : S → List ℕ → Result ℕ DeviceFault → S → Type 0) → ℕ → (ended : Bool) →
    (reader reader' : Standing) → (waiting : List Asked) → (waiting' : T → List Asked) → (output output' : S) →
    (held held' : Situation) → (written written' : ℕ) → Result T RunFault → Type 0
GoesOn {T} {S} rules gives n ended reader reader' waiting waiting' output output' held held' written written' result =
    (read : List ℕ) (first : Situation) (old : S) → HasAnswered rules gives n ended read reader waiting first old output held written →
    MatchResult result (λ value. HasAnswered rules gives n ended read reader' (waiting' value) first old output' held' written')
    (λ fault. Ends rules gives n ended read first old output' fault)

-- reads gave these bytes, and then the end if the input has ended
abbrev pub GaveSoFar : {J : Type 0} → (ended : Bool) → (reads : J → List ℕ → Result ℕ DeviceFault → J → Type 0) → J → List ℕ → J → Type 0
GaveSoFar false reads start read now = Gave reads start read now
GaveSoFar true reads start read now = GaveAll reads start read now

-- bytes were read and fed to a reader, which is in this standing. What it gave is answered up to what waits
pub record HasServed {J S : Type 0} (rules : Rules) (reads : J → List ℕ → Result ℕ DeviceFault → J → Type 0) (start now : J)
    (gives : S → List ℕ → Result ℕ DeviceFault → S → Type 0) (n : ℕ) (ended : Bool) (reader : Standing) (waiting : List Asked)
    (first : Situation) (old new : S) (held : Situation) (written : ℕ) : Type 0 where
  pub read : List ℕ
  pub gave : GaveSoFar ended reads start read now
  pub has : HasAnswered rules gives n ended read reader waiting first old new held written

-- what waits after a call: new weights, if it returned any
abbrev pub weights_waiting : Option WeightList → List Asked
weights_waiting None = []
weights_waiting (Some new) = Weights new ∷ []

-- a call serves a stream up to its end, or up to new weights, which wait. Or the run ends in its fault
abbrev pub ServesOn : {J S : Type 0} → Rules → (reads : J → List ℕ → Result ℕ DeviceFault → J → Type 0) → (now now' : J) →
    (gives : S → List ℕ → Result ℕ DeviceFault → S → Type 0) → ℕ → (ended ended' : Bool) → (reader reader' : Standing) →
    (output output' : S) → (held held' : Situation) → (written written' : ℕ) → Result (Option WeightList) RunFault → Type 0
ServesOn {J} {S} rules reads now now' gives n ended ended' reader reader' output output' held held' written written' result =
    (start : J) (first : Situation) (old : S) →
    HasServed rules reads start now gives n ended reader [] first old output held written →
    MatchResult result
    (λ given. MatchOption given (Serves {T = Unit} rules gives n first (reading reads start now') old output' (Ok tt))
    (λ new. HasServed rules reads start now' gives n ended' reader' (Weights new ∷ []) first old output' held' written'))
    (λ fault. Serves {T = Unit} rules gives n first (reading reads start now') old output' (Err fault))

-- the text of a request by the options, the graph and the hierarchy that answer requests
abbrev pub IsAnswerBy : Answering → TextOf
IsAnswerBy by = IsTextOfRequest by.options.now by.checked.now.graph by.checked.now.hierarchy

-- the rules of a run that customizes new weights over this frame, if there is one
abbrev pub rules_in : Options → Option OrderAndTopology → Rules
rules_in options frame = rules_of options (is_some frame) (IsCustomizedBy frame)

abbrev pub rules_by : Answering → Rules
rules_by by = rules_in by.options.now by.checked.now.frame

-- the situation of this graph and hierarchy, after these places
abbrev pub situation_of : GraphAndHierarchy → PlaceList → Situation
situation_of checked places = record { graph = checked.graph; hierarchy = checked.hierarchy; places = places }

-- the output took this text after `before` bytes, or the beginning of the text, up to a write that failed. Or it took nothing, for want
-- of memory
abbrev pub WritesMore : {T S : Type 0} → (gives : S → List ℕ → Result ℕ DeviceFault → S → Type 0) → (old new : S) →
    (before after : ℕ) → (text : List ℕ) → Result T RunFault → Type 0
WritesMore gives old new before after text (Ok _) = Took gives old text new × (after ≡ capped_number (before + length text))
WritesMore gives old new before after text (Err (RunFault.Write count)) = (bytes : ℕ) × TookUntilFault gives old text bytes new
    × (count ≡ capped_number (before + bytes))
WritesMore gives old new before after text (Err RunFault.Memory) = new ≡ old
WritesMore gives old new before after text (Err _) = ⊥

-- the fault of a run whose reader of requests returns this error
abbrev pub request_refusal : RequestError → RunFault
request_refusal (Fault (Line fault)) = RunFault.Read Which.Requests fault
request_refusal (Fault (Cells line)) = RunFault.CellsAt line
request_refusal NoMemory = RunFault.Memory

-- what comes after a batch of requests, where `gave` is the standing after these and `new` that of the reader
abbrev pub IsAfter : (ended : Bool) → (gave new : Standing) → Then → Type 0
IsAfter ended gave new More = gave ≡ new
IsAfter ended gave new Nothing = (gave ≡ new) × IsUsedUp ended new
IsAfter ended gave new (NewWeights weights) = gave ≡ new
IsAfter ended gave new (Stop error) = IsErrorAhead ended gave error

-- the new weights after a batch, if these come after it
abbrev pub weights_after : Then → List Asked
weights_after (NewWeights weights) = Weights weights ∷ []
weights_after _ = []

-- these new weights are on a graph of n nodes
abbrev pub AreWithin : ℕ → Then → Type 0
AreWithin n (NewWeights weights) = AreNewWeights n weights
AreWithin n _ = ⊤

-- a query of these nodes: with its route, or as the run answers queries
abbrev pub asked_for : Bool → ℕ × ℕ → Request
asked_for routed pair = if routed then route_from pair else query_from pair

-- a request for the near row of this node within this limit
abbrev pub near_row_of : Option ℕ → ℕ → Request
near_row_of within s = Near s within

-- these values make the first of the requests, at least one
pub record AreFirstOf {A : Type 0} (from : A → Request) (requests : List Request) (values : List A) : Type 0 where
  pub some : 0 < length values
  pub few : length values ≤ length requests
  pub are : map from values ≡ take (length values) requests

-- the text answers the first of the requests, `count` of them and at least one, and these take the places from `before` to
-- `after`
pub record AnswersFirst (IsTextOf : TextOf) (before after : PlaceList) (requests : List Request) (text : List ℕ) (count : ℕ) : Type 0 where
  pub some : 0 < count
  pub few : count ≤ length requests
  pub answers : AreAnswered IsTextOf before (take count requests) text
  pub places : after ≡ places_after before (take count requests)

-- the places that were given last for near rows, or none
abbrev pub places_of : Option Wanted → PlaceList
places_of None = no_places
places_of (Some near) = record { nodes = near.targets; count = near.count }

-- the places that are kept from one search to the next, or none
abbrev pub places_kept : Option PlaceList → PlaceList
places_kept None = no_places
places_kept (Some places) = places

-- the searches from these places are in this hierarchy, without a limit, and the hierarchy is right for the graph
abbrev pub IsSearched : Direction → GraphAndHierarchy → Option Wanted → Type 0
IsSearched direction checked None = ⊤
IsSearched direction checked (Some near) = (near.hierarchy ≡ facing direction checked.hierarchy) × (near.limit ≡ None) × IsRight checked
    × ArePlaces checked.graph.nodes (places_of (Some near))

-- a room serves a graph and a hierarchy, and near rows in this direction
pub record IsRoomFor (direction : Direction) (checked : GraphAndHierarchy) (room : Room) : Type 0 where
  pub scratches : All (λ scratch. scratch ≡ nodes_of checked.hierarchy) room.scratches.items
  pub near : IsSearched direction checked room.near
