-- The states of files, and the result of opening one.
use Rattle.std.specs.Prelude.{◌≡◌, ℕ, if◌then◌else◌, [], ◌∷◌, List, Option, Some, None, Result, Ok, Err, IfOk, IsOkAnd, MatchResult, ⊤}
use Rattle.std.proofs.Common.{ap}
use Rattle.std.specs.Str.{bytes_eq}
use Rattle.ch_line.specs.declared.files.memory.MemoryFile.{MemoryFile}
use Rattle.ch_line.specs.declared.files.OpenFault.{OpenFault}
use Rattle.ch_line.specs.declared.files.OpenFault.TheVariants.{Memory, Refused}
use Rattle.ch_text.specs.declared.device.memory.MemoryInput.{MemoryInput}

-- the state of the file of a name: nothing is known of it, there is no file, or its bytes are known
pub data FileState : Type 0 where
  Untold : FileState
  Missing : FileState
  Holds : (bytes : List ℕ) → FileState

-- the result of opening a file of this state. If nothing is known of it, anything may come. A missing file is not opened.
-- If the bytes are known, the input has them, and only a lack of memory keeps it from being opened
abbrev pub Opens : {I : Type 0} → (I → Option (List ℕ)) → FileState → Result I OpenFault → Type 0
Opens left Untold result = ⊤
Opens left Missing result = IfOk result (λ _. ⊥)
Opens left (Holds bytes) result = MatchResult result (λ input. left input ≡ Some bytes) (λ fault. fault ≡ Memory)

-- the result of opening a file in memory of this state, to be read in portions of this many bytes. A file that is there is
-- opened at its first byte, and no read of it fails. A missing file is refused
abbrev pub OpensWhole : ℕ → FileState → Result MemoryInput OpenFault → Type 0
OpensWhole most Untold result = ⊥
OpensWhole most Missing result = result ≡ Err Refused
OpensWhole most (Holds bytes) result =
    IsOkAnd result (λ input. (input.left.now ≡ bytes) × (input.most ≡ most) × (input.fault.before ≡ None))

-- a file in memory that is opened so has its bytes
pub whole_opens : (most : ℕ) (state : FileState) (result : Result MemoryInput OpenFault) → OpensWhole most state result →
    Opens (λ (input : MemoryInput). Some input.left.now) state result
whole_opens most Untold result opened = tt
whole_opens most Missing result opened = rw opened tt
whole_opens most (Holds bytes) (Ok input) opened = ap (λ (bs : List ℕ). Some bs) opened.0
whole_opens most (Holds bytes) (Err fault) opened = absurd opened

-- the state of a name among these files: the bytes of the first file with this name, or missing
abbrev pub state_among : List MemoryFile → List ℕ → FileState
state_among [] name = Missing
state_among (file ∷ files) name = if bytes_eq file.name.now name then Holds file.bytes.now else state_among files name
