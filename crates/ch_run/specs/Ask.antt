-- The promises of a run that answers requests as they come.
use Rattle.std.specs.Prelude.{◌≡◌, ◌⊎◌, ℕ, Bool, true, false, List, [], ◌∷◌, ◌++◌, Option, Some, None, Result, Ok, Err, All, ⊤}
use Rattle.ch_graph.specs.Graph.{Network}
use Rattle.ch_hierarchy.specs.Hierarchy.{LevelsAndLegs}
use Rattle.ch_read.specs.declared.request.Asked.{Asked}
use Rattle.ch_read.specs.declared.request.Asked.TheVariants.{Request as Asks, Weights}
use Rattle.ch_read.specs.declared.request.Request.{Request}
use Rattle.ch_read.specs.declared.request.Request.TheVariants.{Query, Route, Table, Places, Near}
use Rattle.ch_read.specs.declared.request_fault.RequestFault.TheVariants.{Line, Cells}
use Rattle.ch_read.specs.RequestLists.{PlaceList}
use Rattle.ch_read.specs.Reading.{capped_number}
use Rattle.ch_read.specs.Requests.{Told, after_these, stopping, told_by}
use Rattle.ch_read.specs.RequestLaws.{went_by}
use Rattle.ch_run.specs.declared.fault.Which.{Which}
use Rattle.ch_run.specs.declared.fault.RunFault.{RunFault}
use Rattle.ch_job.specs.declared.options.Options.{Options}
use Rattle.ch_text.specs.Moves.{Took, TookUntilFault}
use Rattle.ch_text.specs.declared.device.DeviceFault.{DeviceFault}
use Rattle.ch_run.specs.Run.{Reading, ReadsAll, IsOf, IsWrite, SourceReading}
use Rattle.ch_run.specs.Source.{IsOfLoading, IsServing, WithLoaded, needed_by_requests}
use Rattle.ch_run.specs.Frames.{IsCustomizedFrom, is_customized}
use Rattle.ch_run.specs.NearText.{IsNearText}
use Rattle.ch_text.specs.TableText.{IsTableText}
use Rattle.ch_run.specs.Text.{IsTextBy, writes_routes}
use Rattle.ch_run.specs.Weighing.{HasArc, IsFirstWithoutArc, reweighed}

-- the places before any are given: none
abbrev pub no_places : PlaceList
no_places = record { nodes = []; count = None }

-- a request gives new places, or keeps those that were given last
abbrev pub places_then : PlaceList → Request → PlaceList
places_then places (Query s t) = places
places_then places (Route s t) = places
places_then places (Table lists) = places
places_then places (Places given) = given
places_then places (Near s within) = places

-- the places after these requests, from the places before them
abbrev pub places_after : PlaceList → List Request → PlaceList
places_after places [] = places
places_after places (request ∷ requests) = places_after (places_then places request) requests

-- the limit of a request: its own, or that of the run if it has none
abbrev pub limit_of : Options → Option ℕ → Option ℕ
limit_of options (Some most) = Some most
limit_of options None = options.within

-- the text of a request, by the places that were given last before it. A query has the text of a run over this one query, or that
-- text with its route. A table has the text of its lists. Places have no text. A near row has the text of its node
abbrev pub IsRequestText : Options → Network → (LevelsAndLegs → Type 0) → PlaceList → Request → List ℕ → Type 0
IsRequestText options g From places (Query s t) text = IsTextBy (writes_routes options) g From ((s, t) ∷ []) text
IsRequestText options g From places (Route s t) text = IsTextBy true g From ((s, t) ∷ []) text
IsRequestText options g From places (Table lists) text = IsTableText g (limit_of options lists.within) lists.sources lists.targets text
IsRequestText options g From places (Places given) text = text ≡ []
IsRequestText options g From places (Near s within) text =
    IsNearText g options.direction (limit_of options within) places.count (s ∷ []) places.nodes text

-- the text of a request, by one hierarchy
abbrev pub IsTextOfRequest : Options → Network → LevelsAndLegs → PlaceList → Request → List ℕ → Type 0
IsTextOfRequest options g H = IsRequestText options g (λ K. K ≡ H)

-- which texts a request may have, by the places that were given last before it
abbrev pub TextOf : Type 1
TextOf = PlaceList → Request → List ℕ → Type 0

-- the texts of these requests, one after the other, by the places that were given last before them
abbrev pub AreAnswered : TextOf → PlaceList → List Request → List ℕ → Type 0
AreAnswered IsTextOf places [] text = text ≡ []
AreAnswered IsTextOf places (request ∷ requests) text =
    (first rest : List ℕ) × (text ≡ first ++ rest) × IsTextOf places request first
    × AreAnswered IsTextOf (places_then places request) requests rest

-- what requests are answered by: the graph with the weights as they were set last, its hierarchy, and the places that were given last
pub record Situation : Type 0 where
  pub graph : Network
  pub hierarchy : LevelsAndLegs
  pub places : PlaceList

-- the situation before the first request
abbrev pub at_first : Network → LevelsAndLegs → Situation
at_first g H = record { graph = g; hierarchy = H; places = no_places }

-- a request is answered by its text, in the present situation. New weights have no text. Each of them is for an arc. From here on the graph
-- has them, and the hierarchy is one that is customized for it
abbrev pub Answers : Options → (IsCustomized : Network → LevelsAndLegs → Type 0) → (now : Situation) → Asked → List ℕ → (next : Situation) →
    Type 0
Answers options IsCustomized now (Asks request) text next =
    IsTextOfRequest options now.graph now.hierarchy now.places request text
    × (next ≡ record { graph = now.graph; hierarchy = now.hierarchy; places = places_then now.places request })
Answers options IsCustomized now (Weights new) text next = (text ≡ []) × All (HasArc now.graph) new.listed
    × (next.graph ≡ reweighed now.graph new.listed) × IsCustomized next.graph next.hierarchy × (next.places ≡ now.places)

-- new weights are refused for this fault. If the hierarchy is customized, a new weight is for no arc, and the first such one is on that
-- line. Otherwise all new weights are refused, with the line that begins them
abbrev pub Refuses : (customized : Bool) → (now : Situation) → Asked → RunFault → Type 0
Refuses true now (Weights new) (RunFault.NoArcAt line) = IsFirstWithoutArc now.graph new.listed line
Refuses false now (Weights new) (RunFault.FixedAt line) = line ≡ new.line
Refuses customized now asked fault = ⊥

-- the rules by which a run answers or refuses what a stream gives
pub record Rules : Type 1 where
  pub answers : (now : Situation) → Asked → List ℕ → (next : Situation) → Type 0
  pub refuses : (now : Situation) → Asked → RunFault → Type 0

abbrev pub rules_of : Options → (customized : Bool) → (IsCustomized : Network → LevelsAndLegs → Type 0) → Rules
rules_of options customized IsCustomized = record { answers = Answers options IsCustomized; refuses = Refuses customized }

-- the rules of a run whose hierarchy is from this source
abbrev pub rules_from : Options → SourceReading → Rules
rules_from options source = rules_of options (is_customized source) (IsCustomizedFrom source)

-- what a stream gave is answered in order, by these texts one after the other. Each holds in the situation that those before it left
abbrev pub AreServed : Rules → (now : Situation) → List Asked → List ℕ → (last : Situation) → Type 0
AreServed rules now [] text last = (text ≡ []) × (last ≡ now)
AreServed rules now (asked ∷ more) text last =
    (first rest : List ℕ) × (next : Situation) × (text ≡ first ++ rest) × rules.answers now asked first next
    × AreServed rules next more rest last

-- the output took this text. Or it took the beginning of the text, up to a write that failed, and `count` is the number of its bytes, up to
-- 2^64 - 1. `gives` says what one write may do
abbrev pub TookUpTo : {S : Type 0} → (gives : S → List ℕ → Result ℕ DeviceFault → S → Type 0) → (old new : S) → List ℕ →
    (count : Option ℕ) → Type 0
TookUpTo gives old new text None = Took gives old text new
TookUpTo gives old new text (Some count) = (bytes : ℕ) × TookUntilFault gives old text bytes new × (count ≡ capped_number bytes)

-- the output took the answers to what a stream gave, or the beginning of their text
pub record TookAnswers {S : Type 0} (rules : Rules) (gives : S → List ℕ → Result ℕ DeviceFault → S → Type 0) (first last : Situation)
    (old new : S) (count : Option ℕ) (given : List Asked) : Type 0 where
  pub text : List ℕ
  pub answers : AreServed rules first given text last
  pub took : TookUpTo gives old new text count

-- the number of bytes with which a run reports a failed write, if it does
abbrev pub failed_write : {T : Type 0} → Result T RunFault → Option ℕ
failed_write (Err (RunFault.Write count)) = Some count
failed_write _ = None

-- what is told next is refused for this fault
abbrev pub IsNextRefused : Rules → Situation → RunFault → Told → Type 0
IsNextRefused rules last fault rest =
    (asked : Asked) × (more : Told) × (rest ≡ after_these (asked ∷ []) more) × rules.refuses last asked fault

-- what may be told after the requests that a run answered: nothing if it succeeds, and the fault if it refuses them. If it refuses new
-- weights, these are next. Anything may be told if there is no memory, or if a write failed
abbrev pub MayFollow : {T : Type 0} → Rules → Situation → Result T RunFault → Told → Type 0
MayFollow rules last (Ok _) rest = rest ≡ stopping None
MayFollow rules last (Err (RunFault.Read which fault)) rest = (which ≡ Which.Requests) × (rest ≡ stopping (Some (Line fault)))
MayFollow rules last (Err (RunFault.CellsAt line)) rest = rest ≡ stopping (Some (Cells line))
MayFollow rules last (Err (RunFault.NoArcAt line)) rest = IsNextRefused rules last (RunFault.NoArcAt line) rest
MayFollow rules last (Err (RunFault.FixedAt line)) rest = IsNextRefused rules last (RunFault.FixedAt line) rest
MayFollow rules last (Err RunFault.Memory) rest = ⊤
MayFollow rules last (Err (RunFault.Write count)) rest = ⊤
MayFollow rules last (Err _) rest = ⊥

-- what was answered is told first, and then what may follow it
abbrev pub TellsFirst : {T : Type 0} → Rules → Situation → List Asked → Result T RunFault → Told → Type 0
TellsFirst rules last answered result told = (rest : Told) × (told ≡ after_these answered rest) × MayFollow rules last result rest

-- reads gave these bytes, with P whatever bytes are left. Or they gave these bytes up to the end, with P where none are left
abbrev pub ReadsSome : Reading → (List ℕ → List ℕ → Type 0) → Type 0
ReadsSome input P = (read : List ℕ) × ((input.some read × ((left : List ℕ) → P read left)) ⊎ (input.all read × P read []))

-- the requests that are whole in these bytes: those in lines that a line feed ends
abbrev pub whole_in : ℕ → List ℕ → List Asked
whole_in n bytes = (went_by n bytes).told.given

-- what a run on a graph of n nodes has read when it ends, and what it has answered. At a failed read, all requests that were whole before
-- it are answered. No run can know which read will fail. That is why it answers what is whole before each read
abbrev pub ReadsAndAnswers : {T : Type 0} → Rules → ℕ → Situation → Reading → List Asked → Result T RunFault → Type 0
ReadsAndAnswers rules n last requests answered (Ok done) =
    ReadsAll requests (λ bytes. TellsFirst rules last answered (Ok done) (told_by n bytes))
ReadsAndAnswers rules n last requests answered (Err (RunFault.Device which)) =
    (which ≡ Which.Requests) × (read : List ℕ) × requests.failed read × (answered ≡ whole_in n read)
ReadsAndAnswers {T} rules n last requests answered (Err fault) =
    ReadsSome requests (λ read left. TellsFirst {T = T} rules last answered (Err fault) (told_by n (read ++ left)))

-- how a run over requests on a graph of n nodes ends: what it answered and the situation after that, what it read, and what the output
-- took
pub record Serves {T S : Type 0} (rules : Rules) (gives : S → List ℕ → Result ℕ DeviceFault → S → Type 0) (n : ℕ) (first : Situation)
    (requests : Reading) (old new : S) (result : Result T RunFault) : Type 0 where
  pub answered : List Asked
  pub last : Situation
  pub read : ReadsAndAnswers rules n last requests answered result
  pub output : TookAnswers rules gives first last old new (failed_write result) answered

-- a hierarchy serves, and by it the run answered the requests up to the first new weights
abbrev pub ServesFrom : {T S : Type 0} → Options → SourceReading → Network → Option LevelsAndLegs → Reading →
    (gives : S → List ℕ → Result ℕ DeviceFault → S → Type 0) → (old new : S) → Result T RunFault → Type 0
ServesFrom options source g h requests gives old new result =
    (H : LevelsAndLegs) × IsServing (needed_by_requests options) options.hops.number g h H
    × Serves (rules_from options source) gives g.nodes (at_first g H) requests old new result

-- the graph was accepted, and so was the file for the hierarchy, if one is read. The run answered the requests by this hierarchy, or by
-- the contraction hierarchy that it built, and after new weights by one that is customized for them
abbrev pub ServesBy : {T S : Type 0} → Options → Reading → SourceReading → Reading →
    (gives : S → List ℕ → Result ℕ DeviceFault → S → Type 0) → (old new : S) → Result T RunFault → Type 0
ServesBy options graph source requests gives old new result =
    WithLoaded graph source (λ g h. ServesFrom options source g h requests gives old new result)

-- the faults that answering requests can end in: they are refused or can't be read, there is no memory, or a write failed
abbrev pub IsOfServing : RunFault → Type 0
IsOfServing fault = IsOf Which.Requests fault ⊎ IsWrite fault

-- the faults that a run over requests can end in
abbrev pub IsOfAsk : SourceReading → RunFault → Type 0
IsOfAsk source fault = IsOfLoading source fault ⊎ IsOfServing fault
