-- What the story of a run tells: that it ends only in a fault of its own, that an input is refused only for its own first fault, that
-- failed calls are reported exactly, and that no device is touched before all earlier inputs were accepted. `same` and its like say that
-- an input is as it was. `takes` says what one write of the output may do, which is `old` before the run and `new` after it.
use Rattle.std.specs.Prelude.{◌≡◌, ◌⊎◌, ℕ, ◌<◌, List, Result, Err, IfErr, IsErrAnd, ⊤}
use Rattle.ch_graph.specs.Graph.{Network}
use Rattle.ch_job.specs.declared.options.Options.{Options}
use Rattle.ch_read.specs.declared.form.Form.TheVariants as Form
use Rattle.ch_text.specs.Moves.{Took, TookUntilFault}
use Rattle.ch_text.specs.declared.device.DeviceFault.{DeviceFault}
use Rattle.ch_run.specs.declared.fault.Which.{Which}
use Rattle.ch_run.specs.declared.fault.RunFault.{RunFault}
use Rattle.ch_run.specs.Ask.{IsOfAsk, ServesBy}
use Rattle.ch_run.specs.Customized.{IsUncustomizable}
use Rattle.ch_run.specs.DistRun.{AcceptsQueries, IsAnsweredBy, IsOfDist}
use Rattle.ch_run.specs.Lists.{AcceptsList}
use Rattle.ch_run.specs.NearRun.{AcceptsAnySources, AcceptsNearSources, AcceptsNodeLists, IsNearBy, IsOfNear}
use Rattle.ch_run.specs.Run.{AcceptsGraph, CustomizedFile, Delivers, FoundOrder, GoesPast, IsWrite, NoFile, NoInput, OneInput, OrderFile}
use Rattle.ch_run.specs.Run.{Reading, ReadingIf, ReadsGraph, SavedFile, SourceReading, StopsAt}
use Rattle.ch_run.specs.SaveRun.{IsOfSave, IsSavedBy}
use Rattle.ch_run.specs.Source.{AcceptsLoaded, IsOfLoading, WithLoaded}
use Rattle.ch_run.specs.Story.{HasEnded, IsOrderRefusedOn, IsRefused, IsSavedRefusedOn}
use Rattle.ch_run.specs.TableRun.{AcceptsLists, AcceptsSources, HasCellsRefused, IsOfTable, IsTabledBy}

-- what one call of a device may do: the device before, the bytes, the answer, and the device after
abbrev pub Calls : Type 0 → Type 1
Calls D = D → List ℕ → Result ℕ DeviceFault → D → Type 0

-- the step in which a run reads an input: the graph first, then the file for its hierarchy, and the targets last
abbrev pub step_of : Which → ℕ
step_of Which.Graph = 0
step_of Which.Saved = 1
step_of Which.Order = 1
step_of Which.Targets = 3
step_of _ = 2

-- the run stops at no input that is read before this step
abbrev pub GoesPastBefore : {T : Type 0} → Result T RunFault → ℕ → Type 0
GoesPastBefore r k = (which : Which) → step_of which < k → GoesPast which r

-- the run reports a failed read of this input, which came after these bytes. Or it reports none, and no read of it failed
abbrev pub ReportsReads : {T : Type 0} → Which → Reading → (same : Type 0) → Result T RunFault → Type 0
ReportsReads which input same r = ((r ≡ Err (RunFault.Device which)) × ((bytes : List ℕ) × input.failed bytes))
    ⊎ ((r ≡ Err (RunFault.Device which) → ⊥) × (same ⊎ ((bytes : List ℕ) × (input.some bytes ⊎ input.all bytes))))

-- the run reports a failed write, up to which this text was taken. Or it reports none, and no write failed
abbrev pub ReportsWrites : {T O : Type 0} → Calls O → (old new : O) → Result T RunFault → Type 0
ReportsWrites takes old new r = (IsErrAnd r IsWrite × ((text : List ℕ) × (count : ℕ) × TookUntilFault takes old text count new))
    ⊎ ((IsErrAnd r IsWrite → ⊥) × ((new ≡ old) ⊎ ((text : List ℕ) × Took takes old text new)))

-- what is told of an input: the fault of a run that stops at it has Why, and it is as it was unless the earlier ones were accepted
pub record Met {T : Type 0} (r : Result T RunFault) (which : Which) (input : Reading) (same accepted : Type 0)
    (Why : RunFault → Type 0) : Type 0 where
  pub why : (fault : RunFault) → StopsAt which fault → r ≡ Err fault → Why fault
  pub calls : ReportsReads which input same r
  pub unread : same ⊎ (GoesPastBefore r (step_of which) × accepted)

-- the same of a file for the hierarchy, which is refused only for what `refuses` says of its bytes on the graph
abbrev pub MetFile : {T : Type 0} → Result T RunFault → (graph : Reading) → Which → (file : Reading) → (same : Type 0) →
    (refuses : Network → List ℕ → RunFault → Type 0) → Type 0
MetFile r graph which file same refuses =
    Met r which file same (AcceptsGraph graph) (λ e. (g : Network) × ReadsGraph graph g × HasEnded file (refuses g) e)

-- what is told of that file, if there is one
abbrev pub MetSource : {T : Type 0} → Result T RunFault → (graph : Reading) → SourceReading → (same : Type 0) → Type 0
MetSource r graph NoFile same = ⊤
MetSource r graph (SavedFile saved) same = MetFile r graph Which.Saved saved same IsSavedRefusedOn
MetSource r graph (OrderFile order fresh hops) same = MetFile r graph Which.Order order same (λ g. IsOrderRefusedOn g fresh hops)
MetSource r graph (CustomizedFile order hops) same = MetFile r graph Which.Order order same IsUncustomizable
MetSource r graph (FoundOrder hops) same = ⊤

-- what is told of the list of sources, if there is one
abbrev pub MetIf : {T : Type 0} → Result T RunFault → ReadingIf → (same accepted : Type 0) → (Why : Reading → RunFault → Type 0) → Type 0
MetIf r NoInput same accepted Why = ⊤
MetIf r (OneInput list) same accepted Why = Met r Which.Sources list same accepted (Why list)

-- what is told of the output: it takes a text with P or its beginning, and is as it was unless all inputs were accepted
pub record Written {T O : Type 0} (r : Result T RunFault) (takes : Calls O) (old new : O) (accepted : Type 0) (P : List ℕ → Type 0) :
    Type 0 where
  pub calls : ReportsWrites takes old new r
  pub unwritten : (new ≡ old) ⊎ (IfErr r IsWrite × accepted)
  pub written : Delivers r takes old new P

-- what the story of each run tells: it ends only in a fault with Own, and this is told of the graph, of the file for the hierarchy, and
-- of what comes after them
pub record Tells {T : Type 0} (r : Result T RunFault) (Own : RunFault → Type 0) (graph : Reading) (source : SourceReading)
    (same_source rest : Type 0) : Type 0 where
  pub own : IfErr r Own
  pub met_graph : Met r Which.Graph graph ⊥ ⊤ (HasEnded graph (IsRefused Form.Graph))
  pub met_source : MetSource r graph source same_source
  pub later : rest

-- what the story of a run tells that answers queries
abbrev pub DistTells : {T O : Type 0} → Options → (graph : Reading) → (source : SourceReading) → (queries : Reading) →
    (same_source same_queries : Type 0) → (takes : Calls O) → (old new : O) → Result T RunFault → Type 0
DistTells options graph source queries same_source same_queries takes old new r = Tells r (IsOfDist source) graph source same_source (
    Met r Which.Queries queries same_queries (AcceptsLoaded graph source)
    (λ e. WithLoaded graph source (λ g h. HasEnded queries (IsRefused (Form.Queries g.nodes)) e))
    × Written r takes old new (AcceptsQueries graph source queries) (IsAnsweredBy options graph source queries))

-- of a run that makes a table
abbrev pub TableTells : {T O : Type 0} → Options → (graph : Reading) → (source : SourceReading) → (sources targets : Reading) →
    (same_source same_sources same_targets : Type 0) → (takes : Calls O) → (old new : O) → Result T RunFault → Type 0
TableTells options graph source sources targets same_source same_sources same_targets takes old new r =
    Tells r (IsOfTable source) graph source same_source (
    Met r Which.Sources sources same_sources (AcceptsLoaded graph source)
    (λ e. WithLoaded graph source (λ g h. HasEnded sources (IsRefused (Form.Nodes g.nodes)) e))
    × (Met r Which.Targets targets same_targets (AcceptsSources graph source sources)
    (λ e. WithLoaded graph source (λ g h. AcceptsList sources g.nodes × HasEnded targets (IsRefused (Form.Nodes g.nodes)) e))
    × ((r ≡ Err RunFault.Cells → HasCellsRefused graph source sources targets)
    × Written r takes old new (AcceptsLists graph source sources targets) (IsTabledBy options graph source sources targets))))

-- of a run that writes near rows
abbrev pub NearTells : {T O : Type 0} → Options → (graph : Reading) → (source : SourceReading) → (sources : ReadingIf) →
    (targets : Reading) → (same_source same_sources same_targets : Type 0) → (takes : Calls O) → (old new : O) → Result T RunFault → Type 0
NearTells options graph source sources targets same_source same_sources same_targets takes old new r =
    Tells r (IsOfNear source sources) graph source same_source (
    MetIf r sources same_sources (AcceptsLoaded graph source)
    (λ list e. WithLoaded graph source (λ g h. HasEnded list (IsRefused (Form.Nodes g.nodes)) e))
    × (Met r Which.Targets targets same_targets (AcceptsNearSources graph source sources)
    (λ e. WithLoaded graph source (λ g h. AcceptsAnySources sources g.nodes × HasEnded targets (IsRefused (Form.Nodes g.nodes)) e))
    × Written r takes old new (AcceptsNodeLists graph source sources targets) (IsNearBy options graph source sources targets)))

-- of a run that saves a hierarchy
abbrev pub SaveTells : {T O : Type 0} → Options → (graph : Reading) → (source : SourceReading) → (same_source : Type 0) →
    (takes : Calls O) → (old new : O) → Result T RunFault → Type 0
SaveTells options graph source same_source takes old new r = Tells r (IsOfSave source) graph source same_source
    (Written r takes old new (AcceptsLoaded graph source) (IsSavedBy options graph source))

-- of a run that answers requests. It ends while it loads, or it serves them
abbrev pub AskTells : {T O : Type 0} → Options → (graph : Reading) → (source : SourceReading) → (requests : Reading) →
    (same_source same_requests : Type 0) → (takes : Calls O) → (old new : O) → Result T RunFault → Type 0
AskTells options graph source requests same_source same_requests takes old new r = Tells r (IsOfAsk source) graph source same_source (
    ReportsReads Which.Requests requests same_requests r × ReportsWrites takes old new r
    × ((IsErrAnd r (IsOfLoading source) × same_requests × (new ≡ old)) ⊎ ServesBy options graph source requests takes old new r))
