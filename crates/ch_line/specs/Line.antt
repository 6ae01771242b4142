-- The files that a line names, how they are opened, and how the run of a line ends.
use Rattle.std.specs.Prelude.{◌≡◌, ◌⊎◌, ℕ, [], ◌∷◌, List, Option, Result, Ok, Err, String, IsErrAnd, ⊤}
use Rattle.std.specs.String.{string_bytes}
use Rattle.std.specs.declared.alloc.Global.{Global}
use Rattle.ch_job.specs.Job.{job_map, question_map, source_map}
use Rattle.ch_job.specs.declared.job.Job.{Job}
use Rattle.ch_job.specs.declared.job.Question.{Question}
use Rattle.ch_job.specs.declared.source.Source.{Source}
use Rattle.ch_text.specs.Device.{CountsAtMostOne}
use Rattle.ch_text.specs.declared.device.DeviceFault.{DeviceFault}
use Rattle.ch_run.specs.declared.fault.Which.{Which}
use Rattle.ch_run.specs.declared.fault.RunFault.{RunFault}
use Rattle.ch_run.specs.Run.{WritesOnce}
use Rattle.ch_words.specs.declared.line.Line.{Line}
use Rattle.ch_line.specs.declared.files.OpenFault.{OpenFault}
use Rattle.ch_line.specs.Files.{FileState, Opens}
use Rattle.ch_line.specs.Inputs.{RunsOver, inputs_in, question_inputs, source_inputs}

-- an input and the name of its file
abbrev pub File : Type 0
File = Which × List ℕ

-- the file that is read for the hierarchy, if there is one
abbrev pub source_files : Source (String Global) → List File
source_files source = source_inputs (source_map string_bytes source)

-- the files of a list of sources and a list of targets
abbrev pub list_files : List ℕ → List ℕ → List File
list_files sources targets = (Which.Sources, sources) ∷ (Which.Targets, targets) ∷ []

-- the files of a question, in the order in which the run opens them
abbrev pub question_files : Question (String Global) → List File
question_files question = question_inputs (question_map string_bytes question)

-- the files that a job names, in the order in which its run opens them
abbrev pub named_in : Job (String Global) → List File
named_in job = inputs_in (job_map string_bytes job)

-- the number 0, for each file
abbrev pub zero_of : {F : Type 0} → F → ℕ
zero_of file = 0

-- the job is the same but for its files: the question, the kind of its source with the numbers of an order, the options and the plan
abbrev pub IsOpenedFor : {F I : Type 0} → Job F → Job I → Type 0
IsOpenedFor job opened = job_map zero_of opened ≡ job_map zero_of job

-- no read of an input of the job has failed
abbrev pub AreFresh : {I : Type 0} → (I → ℕ) → Job I → Type 0
AreFresh failed job = job_map failed job ≡ job_map zero_of job

-- a file of this state may exist
abbrev pub MayBeThere : FileState → Type 0
MayBeThere FileState.Untold = ⊤
MayBeThere FileState.Missing = ⊥
MayBeThere (FileState.Holds bytes) = ⊤

-- each of these files may exist
abbrev pub MayAllBeThere : (List ℕ → FileState) → List File → Type 0
MayAllBeThere known [] = ⊤
MayAllBeThere known (file ∷ files) = MayBeThere (known file.1) × MayAllBeThere known files

-- the system may refuse to open a file of this state
abbrev pub MayBeRefused : FileState → Type 0
MayBeRefused FileState.Untold = ⊤
MayBeRefused FileState.Missing = ⊤
MayBeRefused (FileState.Holds bytes) = ⊥

-- an input isn't opened, for this fault: there is no memory, or the system refuses its file
abbrev pub IsNotOpened : FileState → Which → RunFault → Type 0
IsNotOpened known which fault = (fault ≡ RunFault.Memory) ⊎ ((fault ≡ RunFault.Device which) × MayBeRefused known)

-- one of these files isn't opened, for this fault
abbrev pub IsUnopened : (List ℕ → FileState) → List File → RunFault → Type 0
IsUnopened known [] fault = ⊥
IsUnopened known (file ∷ files) fault = IsNotOpened (known file.1) file.0 fault ⊎ IsUnopened known files fault

-- if this file is missing, the run ends at it, or in a lack of memory. If nothing is known of it, the run ends at it or goes on
abbrev pub AtMissing : {T : Type 0} → FileState → Which → Type 0 → Result T RunFault → Type 0
AtMissing FileState.Untold which rest result = IsErrAnd result (λ fault. fault ≡ RunFault.Device which) ⊎ rest
AtMissing FileState.Missing which rest result = IsErrAnd result (λ fault. (fault ≡ RunFault.Device which) ⊎ (fault ≡ RunFault.Memory))
AtMissing (FileState.Holds bytes) which rest result = rest

-- the run ends at the first of these files that is missing
abbrev pub EndsAtMissing : {T : Type 0} → (List ℕ → FileState) → List File → Result T RunFault → Type 0
EndsAtMissing known [] result = ⊤
EndsAtMissing known (file ∷ files) result = AtMissing (known file.1) file.0 (EndsAtMissing known files result) result

-- the fault that a run ends in if this input's file can't be opened
abbrev pub open_fault : Which → OpenFault → RunFault
open_fault which OpenFault.Refused = RunFault.Device which
open_fault which OpenFault.Memory = RunFault.Memory

-- this file can't be opened, and the run ends in that fault
abbrev pub IsRefused : {F I : Type 0} → (opens : F → List ℕ → Result I OpenFault → F → Type 0) → File → (old new : F) → RunFault → Type 0
IsRefused opens file old new fault = (refusal : OpenFault) × opens old file.1 (Err refusal) new × (fault ≡ open_fault file.0 refusal)

-- the run opens these files in turn, up to one that it can't open. Then it ends in that fault
abbrev pub StopsOpening : {F I : Type 0} → (opens : F → List ℕ → Result I OpenFault → F → Type 0) → List File → (old new : F) →
    RunFault → Type 0
StopsOpening opens [] old new fault = ⊥
StopsOpening {F} {I} opens (file ∷ files) old new fault =
    IsRefused opens file old new fault
    ⊎ ((input : I) × (mid : F) × opens old file.1 (Ok input) mid × StopsOpening opens files mid new fault)

-- the run opens these files in turn, and no other file. These are their inputs
abbrev pub AreOpened : {F I : Type 0} → (opens : F → List ℕ → Result I OpenFault → F → Type 0) → List File → List (Which × I) →
    (old new : F) → Type 0
AreOpened opens [] [] old new = new ≡ old
AreOpened opens [] (input ∷ inputs) old new = ⊥
AreOpened opens (file ∷ files) [] old new = ⊥
AreOpened {F} opens (file ∷ files) (input ∷ inputs) old new = (input.0 ≡ file.0) × (mid : F) × opens old file.1 (Ok input.1) mid
    × AreOpened opens files inputs mid new

-- the run closes these inputs in turn, each in the state in which it was left. It opens no file
abbrev pub AreClosed : {F I : Type 0} → (closes : F → I → F → Type 0) → List (Which × I) → (old new : F) → Type 0
AreClosed closes [] old new = new ≡ old
AreClosed {F} closes (input ∷ inputs) old new = (mid : F) × closes old input.1 mid × AreClosed closes inputs mid new

-- each of these files was opened, and its input is at the first byte, as far as that is known: a file whose bytes are known has them
abbrev pub HaveBytes : {I : Type 0} → (I → Option (List ℕ)) → (List ℕ → FileState) → List File → List (Which × I) → Type 0
HaveBytes left known [] [] = ⊤
HaveBytes left known [] (input ∷ inputs) = ⊥
HaveBytes left known (file ∷ files) [] = ⊥
HaveBytes left known (file ∷ files) (input ∷ inputs) = Opens left (known file.1) (Ok input.1) × HaveBytes left known files inputs

-- the run of a line. If one of its files can't be opened, the run ends in that fault, and touches neither the requests nor the output.
-- Otherwise it opens all of them in turn, and no other file. Then it is the run of the line's job over these very inputs. At the end it
-- closes all of them in turn, each as the run left it
abbrev pub RunsLine : {F I J O : Type 0} → (opens : F → List ℕ → Result I OpenFault → F → Type 0) → (closes : F → I → F → Type 0) →
    (gives : I → List ℕ → Result ℕ DeviceFault → I → Type 0) → (origin : I → ℕ)
    → (gives_requests : J → List ℕ → Result ℕ DeviceFault → J → Type 0) → (takes : O → List ℕ → Result ℕ DeviceFault → O → Type 0)
    → Line → (files files' : F) → (requests requests' : J) → (old new : O) → Result Unit RunFault → Type 0
RunsLine {F} {I} opens closes gives origin gives_requests takes line files files' requests requests' old new result =
    (IsErrAnd result (StopsOpening opens (named_in line.job) files files') × (requests' ≡ requests) × (new ≡ old))
    ⊎ ((opened left : Job I) × (mid : F) × AreOpened opens (named_in line.job) (inputs_in opened) files mid × IsOpenedFor line.job opened
    × RunsOver gives opened left gives_requests requests requests' takes old new result
    × (job_map origin left ≡ job_map origin opened)
    × AreClosed closes (inputs_in left) mid files')

-- the promises of `run_line`: what the run did, and the failures that were counted
pub record IsRunOf {F I J O : Type 0} (opens : F → List ℕ → Result I OpenFault → F → Type 0) (closes : F → I → F → Type 0)
    (gives : I → List ℕ → Result ℕ DeviceFault → I → Type 0) (origin : I → ℕ)
    (gives_requests : J → List ℕ → Result ℕ DeviceFault → J → Type 0) (failed_requests : J → ℕ)
    (takes : O → List ℕ → Result ℕ DeviceFault → O → Type 0) (failed idle : O → ℕ)
    (line : Line) (files files' : F) (requests requests' : J) (old new : O) (result : Result Unit RunFault) : Type 0 where
  pub went : RunsLine opens closes gives origin gives_requests takes line files files' requests requests' old new result
  pub requests_once : CountsAtMostOne (failed_requests requests) (failed_requests requests')
  pub output : WritesOnce result failed idle old new
