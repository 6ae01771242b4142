-- The inputs of a job, and what its run over them does and tells.
use Rattle.std.specs.Prelude.{◌≡◌, ℕ, [], ◌∷◌, ◌++◌, List, Option, Some, None, Result}
use Rattle.ch_job.specs.Job.{question_map, sources_map}
use Rattle.ch_job.specs.declared.job.Job.{Job}
use Rattle.ch_job.specs.declared.job.Question.{Question}
use Rattle.ch_job.specs.declared.options.Options.{Options}
use Rattle.ch_job.specs.declared.source.Source.{Source}
use Rattle.ch_job.specs.declared.sources.Sources.{Sources}
use Rattle.ch_text.specs.declared.device.DeviceFault.{DeviceFault}
use Rattle.ch_run.specs.declared.fault.Which.{Which}
use Rattle.ch_run.specs.declared.fault.RunFault.{RunFault}
use Rattle.ch_run.specs.NearRun.{listed_in, sources_reading}
use Rattle.ch_run.specs.Run.{Reading, ReadingIf, SourceReading, reading}
use Rattle.ch_run.specs.Source.{source_reading}
use Rattle.ch_run.specs.Stories.{RunsAsk, RunsDist, RunsNear, RunsSave, RunsTable}
use Rattle.ch_run.specs.Told.{AskTells, DistTells, NearTells, SaveTells, TableTells}

-- this input, and which input it is, or nothing if there is no input
abbrev pub input_if : {I : Type 0} → Which → Option I → List (Which × I)
input_if which None = []
input_if which (Some input) = (which, input) ∷ []

-- the input that is read for the hierarchy, and which input it is, or nothing if there is none
abbrev pub source_inputs : {I : Type 0} → Source I → List (Which × I)
source_inputs Source.Built = []
source_inputs (Source.Saved saved) = (Which.Saved, saved) ∷ []
source_inputs (Source.Like order fresh hops) = (Which.Order, order) ∷ []
source_inputs (Source.Customized order hops) = (Which.Order, order) ∷ []
source_inputs (Source.Dissected hops) = []

-- the inputs of a question, each with which input it is, in the order in which the run opens them
abbrev pub question_inputs : {I : Type 0} → Question I → List (Which × I)
question_inputs (Question.Queries queries) = (Which.Queries, queries) ∷ []
question_inputs (Question.Table sources targets) = (Which.Sources, sources) ∷ (Which.Targets, targets) ∷ []
question_inputs (Question.Near sources targets) = input_if Which.Sources (listed_in sources) ++ (Which.Targets, targets) ∷ []
question_inputs Question.Hierarchy = []
question_inputs Question.Requests = []

-- all inputs of a job, in the order in which the run opens them
abbrev pub inputs_in : {I : Type 0} → Job I → List (Which × I)
inputs_in job = ((Which.Graph, job.graph) ∷ source_inputs job.source) ++ question_inputs job.question

-- a question with each input before and after a run: `old` is the question before it, and `new` the one after it
abbrev pub ArePaired : {I : Type 0} → Question (I × I) → (old new : Question I) → Type 0
ArePaired asked old new = (question_map (λ input. input.0) asked ≡ old) × (question_map (λ input. input.1) asked ≡ new)

-- the sources of near rows before a run, and after it
abbrev pub sources_before : {I : Type 0} → Sources (I × I) → Sources I
sources_before sources = sources_map (λ input. input.0) sources

abbrev pub sources_after : {I : Type 0} → Sources (I × I) → Sources I
sources_after sources = sources_map (λ input. input.1) sources

-- what a run did with these sources
abbrev pub sources_read : {I : Type 0} → (gives : I → List ℕ → Result ℕ DeviceFault → I → Type 0) → Sources (I × I) → ReadingIf
sources_read gives sources = sources_reading gives (sources_before sources) (sources_after sources)

-- the run that answers a question about a graph, over the inputs of the question. It reads no requests, unless it answers them.
-- `same_source` says that the source of the hierarchy is as it was
abbrev pub RunsFor : {I J O : Type 0} → Options → (graph : Reading) → (source : SourceReading) → (same_source : Type 0) →
    (gives : I → List ℕ → Result ℕ DeviceFault → I → Type 0) → Question (I × I)
    → (gives_requests : J → List ℕ → Result ℕ DeviceFault → J → Type 0) → (requests requests' : J) →
    (takes : O → List ℕ → Result ℕ DeviceFault → O → Type 0) → (output output' : O) → Result Unit RunFault → Type 0
RunsFor options graph source same_source gives (Question.Queries queries) gives_requests requests requests' takes output output' result =
    RunsDist options graph source (reading gives queries.0 queries.1) same_source (queries.1 ≡ queries.0) takes output output' result
    × (requests' ≡ requests)
RunsFor options graph source same_source gives (Question.Table sources targets) gives_requests requests requests' takes output output'
    result =
    RunsTable options graph source (reading gives sources.0 sources.1) (reading gives targets.0 targets.1) same_source
    (sources.1 ≡ sources.0) (targets.1 ≡ targets.0) takes output output' result × (requests' ≡ requests)
RunsFor options graph source same_source gives (Question.Near sources targets) gives_requests requests requests' takes output output'
    result =
    RunsNear options graph source (sources_read gives sources) (reading gives targets.0 targets.1) same_source
    (sources_after sources ≡ sources_before sources) (targets.1 ≡ targets.0) takes output output' result × (requests' ≡ requests)
RunsFor options graph source same_source gives Question.Hierarchy gives_requests requests requests' takes output output' result =
    RunsSave options graph source same_source takes output output' result × (requests' ≡ requests)
RunsFor options graph source same_source gives Question.Requests gives_requests requests requests' takes output output' result =
    RunsAsk options graph source (reading gives_requests requests requests') same_source (requests' ≡ requests) takes output output' result

-- the story of the run of a job over its inputs: they are those of `old` before it and those of `new` after it. The run is as its
-- question, its source and its options say
abbrev pub RunsOver : {I J O : Type 0} → (gives : I → List ℕ → Result ℕ DeviceFault → I → Type 0) → (old new : Job I)
    → (gives_requests : J → List ℕ → Result ℕ DeviceFault → J → Type 0) → (requests requests' : J) →
    (takes : O → List ℕ → Result ℕ DeviceFault → O → Type 0) → (output output' : O) → Result Unit RunFault → Type 0
RunsOver {I} gives old new gives_requests requests requests' takes output output' result =
    (asked : Question (I × I)) × ArePaired asked old.question new.question
    × RunsFor old.options (reading gives old.graph new.graph) (source_reading gives old.source new.source) (new.source ≡ old.source)
    gives asked gives_requests requests requests' takes output output' result

-- what that run tells: of the inputs of the question, of the requests and of the output. It reads no requests, unless it answers them
abbrev pub TellsFor : {I J O : Type 0} → Options → (graph : Reading) → (source : SourceReading) → (same_source : Type 0) →
    (gives : I → List ℕ → Result ℕ DeviceFault → I → Type 0) → Question (I × I)
    → (gives_requests : J → List ℕ → Result ℕ DeviceFault → J → Type 0) → (requests requests' : J) →
    (takes : O → List ℕ → Result ℕ DeviceFault → O → Type 0) → (output output' : O) → Result Unit RunFault → Type 0
TellsFor options graph source same_source gives (Question.Queries queries) gives_requests requests requests' takes output output' result =
    DistTells options graph source (reading gives queries.0 queries.1) same_source (queries.1 ≡ queries.0) takes output output' result
    × (requests' ≡ requests)
TellsFor options graph source same_source gives (Question.Table sources targets) gives_requests requests requests' takes output output'
    result =
    TableTells options graph source (reading gives sources.0 sources.1) (reading gives targets.0 targets.1) same_source
    (sources.1 ≡ sources.0) (targets.1 ≡ targets.0) takes output output' result × (requests' ≡ requests)
TellsFor options graph source same_source gives (Question.Near sources targets) gives_requests requests requests' takes output output'
    result =
    NearTells options graph source (sources_read gives sources) (reading gives targets.0 targets.1) same_source
    (sources_after sources ≡ sources_before sources) (targets.1 ≡ targets.0) takes output output' result × (requests' ≡ requests)
TellsFor options graph source same_source gives Question.Hierarchy gives_requests requests requests' takes output output' result =
    SaveTells options graph source same_source takes output output' result × (requests' ≡ requests)
TellsFor options graph source same_source gives Question.Requests gives_requests requests requests' takes output output' result =
    AskTells options graph source (reading gives_requests requests requests') same_source (requests' ≡ requests) takes output output' result

-- what the story of the run of a job tells: of the files, of the requests and of the output. `asked` is the question, with each of its
-- inputs before and after the run
abbrev pub TellsOver : {I J O : Type 0} → (gives : I → List ℕ → Result ℕ DeviceFault → I → Type 0) → (old new : Job I)
    → (gives_requests : J → List ℕ → Result ℕ DeviceFault → J → Type 0) → (requests requests' : J) →
    (takes : O → List ℕ → Result ℕ DeviceFault → O → Type 0) → (output output' : O) → Result Unit RunFault → Type 0
TellsOver {I} gives old new gives_requests requests requests' takes output output' result =
    (asked : Question (I × I)) × ArePaired asked old.question new.question
    × TellsFor old.options (reading gives old.graph new.graph) (source_reading gives old.source new.source) (new.source ≡ old.source)
    gives asked gives_requests requests requests' takes output output' result
