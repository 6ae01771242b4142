-- How the program answers its words, and how it ends.
use Rattle.std.specs.Prelude.{◌≡◌, ◌⊎◌, ℕ, ◌++◌, List, Result, Ok, Err, IfErr, OnOk, codes}
use Rattle.std.specs.String.{string_bytes}
use Rattle.ch_run.specs.declared.fault.RunFault.{RunFault}
use Rattle.ch_text.specs.Device.{CanCountOneMore}
use Rattle.ch_text.specs.Moves.{Took, TookUntilFault}
use Rattle.ch_text.specs.declared.device.DeviceFault.{DeviceFault}
use Rattle.ch_run.specs.Fault.{status_of, fault_text as run_fault_text}
use Rattle.ch_words.specs.declared.line.Line.{Line}
use Rattle.ch_line.specs.declared.files.OpenFault.{OpenFault}
use Rattle.ch_line.specs.Line.{IsRunOf}
use Rattle.ch_words.specs.declared.fault.LineFault.{LineFault}
use Rattle.chtab.specs.declared.program.ProgramFault.{ProgramFault}
use Rattle.ch_words.specs.Line.{IsFaultOf, IsReadFrom, line_status_of}

-- the exit status of a fault, of the words or of the run
abbrev pub exit_status_of : ProgramFault → ℕ
exit_status_of (ProgramFault.Line fault) = line_status_of fault
exit_status_of (ProgramFault.Run fault) = status_of fault

-- the text that reports why no line is run. The texts of help and of refused words end with their own line feed
abbrev pub line_fault_text : LineFault → List ℕ
line_fault_text (LineFault.Help text) = string_bytes text
line_fault_text (LineFault.Refused text) = string_bytes text
line_fault_text LineFault.NoMemory = codes "chtab: out of memory\n"

-- the text that reports a fault
abbrev pub fault_text : ProgramFault → List ℕ
fault_text (ProgramFault.Line fault) = line_fault_text fault
fault_text (ProgramFault.Run fault) = run_fault_text fault ++ codes "\n"

-- an output can count one more write that fails, and one more that takes none of some bytes
abbrev pub CanCountWrites : {O : Type 0} → (failed idle : O → ℕ) → O → Type 0
CanCountWrites failed idle output = CanCountOneMore (failed output) × CanCountOneMore (idle output)

-- an output took a text: the whole text, or its first bytes up to a write that failed. `takes` says what one write may do
pub record IsWritten {O : Type 0} (takes : O → List ℕ → Result ℕ DeviceFault → O → Type 0) (text : List ℕ) (old new : O)
    (result : Result Unit ℕ) : Type 0 where
  pub whole : OnOk result (Took takes old text new)
  pub part : IfErr result (λ count. TookUntilFault takes old text count new)

-- the answer of the program for this result of its run
abbrev pub answer_of : Result Unit RunFault → Result Unit ProgramFault
answer_of (Ok done) = Ok done
answer_of (Err fault) = Err (ProgramFault.Run fault)

-- the answer of the program for this result of writing its text
abbrev pub written_answer : Result Unit ℕ → Result Unit ProgramFault
written_answer (Ok done) = Ok done
written_answer (Err count) = Err (ProgramFault.Run (RunFault.Write count))

-- if the words ask for help, the text of help is written. Otherwise their fault is the answer, and the output is unchanged
abbrev pub AnswersFault : {O : Type 0} → (takes : O → List ℕ → Result ℕ DeviceFault → O → Type 0) → LineFault → O → O →
    Result Unit ProgramFault → Type 0
AnswersFault takes (LineFault.Help text) old new answer =
    (written : Result Unit ℕ) × (answer ≡ written_answer written) × IsWritten takes (string_bytes text) old new written
AnswersFault takes (LineFault.Refused text) old new answer = (answer ≡ Err (ProgramFault.Line (LineFault.Refused text))) × (new ≡ old)
AnswersFault takes LineFault.NoMemory old new answer = (answer ≡ Err (ProgramFault.Line LineFault.NoMemory)) × (new ≡ old)

-- the words give a line, and the answer is the answer of its run. Or the words have a fault, and the program answers it. Then it opens no
-- file, and the requests are unchanged
abbrev pub IsAnswer : {F I J O : Type 0} → (F → List ℕ → Result I OpenFault → F → Type 0) → (F → I → F → Type 0) →
    (gives : I → List ℕ → Result ℕ DeviceFault → I → Type 0) → (I → ℕ)
    → (gives_requests : J → List ℕ → Result ℕ DeviceFault → J → Type 0) → (J → ℕ) →
    (takes : O → List ℕ → Result ℕ DeviceFault → O → Type 0) → (O → ℕ) → (O → ℕ) → List (List ℕ) → F → F → J → J → O → O →
    Result Unit ProgramFault → Type 0
IsAnswer opens closes gives origin gives_requests failed_requests takes failed idle words files files' requests requests' old new answer =
    ((line : Line) × (result : Result Unit RunFault) × IsReadFrom words line
    × IsRunOf opens closes gives origin gives_requests failed_requests takes failed idle line files files' requests requests' old
    new result × (answer ≡ answer_of result))
    ⊎ ((fault : LineFault) × IsFaultOf words fault × (files' ≡ files) × (requests' ≡ requests) × AnswersFault takes fault old new answer)

-- the errors took this text, or its first bytes if a write failed
abbrev pub IsTold : {E : Type 0} → (takes : E → List ℕ → Result ℕ DeviceFault → E → Type 0) → List ℕ → E → E → Type 0
IsTold takes text old new = (written : Result Unit ℕ) × IsWritten takes text old new written

-- the fault is reported, and the exit status is its own
abbrev pub EndsIn : {E : Type 0} → (takes : E → List ℕ → Result ℕ DeviceFault → E → Type 0) → ProgramFault → E → E → ℕ → Type 0
EndsIn takes fault old new status = IsTold takes (fault_text fault) old new × (status ≡ exit_status_of fault)

-- the end of the program with this answer. Without a fault the status is 0, and the errors are unchanged. A fault is reported, and has its
-- own status
abbrev pub IsEnd : {E : Type 0} → (takes : E → List ℕ → Result ℕ DeviceFault → E → Type 0) → Result Unit ProgramFault → E → E → ℕ → Type 0
IsEnd takes (Ok done) old new status = (status ≡ 0) × (new ≡ old)
IsEnd takes (Err fault) old new status = EndsIn takes fault old new status
