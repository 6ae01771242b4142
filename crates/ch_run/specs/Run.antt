-- The promises of every run on its inputs and its output.
use Rattle.std.specs.Prelude.{◌≡◌, ◌≢◌, ◌⊎◌, ◌↔◌, ℕ, ◌<◌, List, Option, Some, None, Result, Ok, Err, IfErr, IsErrAnd, ⊤}
use Rattle.ch_graph.specs.Graph.{Network}
use Rattle.ch_read.specs.Names.{NamesGraph, NamesQueries, NamesNodes}
use Rattle.ch_run.specs.declared.fault.Which.{Which}
use Rattle.ch_run.specs.declared.fault.RunFault.{RunFault}
use Rattle.ch_text.specs.Device.{CountsAtMostOne, CountsAtMostOneOf}
use Rattle.ch_text.specs.Moves.{Gave, GaveAll, GaveUntilFault, Took, TookUntilFault}
use Rattle.ch_text.specs.declared.device.DeviceFault.{DeviceFault}

-- what a run did with an input
pub record Reading : Type 1 where
  -- reads gave these bytes, up to the end
  pub all : List ℕ → Type 0
  -- reads gave these bytes, one after the other, and none has failed. More bytes may be left
  pub some : List ℕ → Type 0
  -- reads gave these bytes, and then a read failed. No read came after it
  pub failed : List ℕ → Type 0

-- the reading of an input that is `old` before the run and `new` after it, where `gives` says what one read may do
abbrev pub reading : {S : Type 0} → (gives : S → List ℕ → Result ℕ DeviceFault → S → Type 0) → (old new : S) → Reading
reading gives old new = record {
  all = λ bytes. GaveAll gives old bytes new;
  some = λ bytes. Gave gives old bytes new;
  failed = λ bytes. GaveUntilFault gives old bytes new;
}

-- what a run did with an input that only some runs have, if there is one
pub data ReadingIf : Type 1 where
  NoInput : ReadingIf
  OneInput : (input : Reading) → ReadingIf

-- the reading of an input that only some runs have, if there is one
abbrev pub reading_if : {S : Type 0} → (gives : S → List ℕ → Result ℕ DeviceFault → S → Type 0) → Option S → Option S → ReadingIf
reading_if gives (Some old) (Some new) = OneInput (reading gives old new)
reading_if gives (Some old) None = NoInput
reading_if gives None new = NoInput

-- where the hierarchy of a run comes from, with what the run did with the input that it reads for it
pub data SourceReading : Type 1 where
  -- the run builds it, and reads nothing for it
  NoFile : SourceReading
  -- the run reads a saved hierarchy
  SavedFile : (saved : Reading) → SourceReading
  -- the run reads an order and builds the hierarchy in an order like it: this per cent of the nodes are ordered afresh, and a witness has
  -- at most this many legs
  OrderFile : (order : Reading) (fresh hops : ℕ) → SourceReading
  -- the run reads an order and customizes the hierarchy in it. If the order has too many triangles, the run builds the hierarchy, and a
  -- witness has at most this many legs
  CustomizedFile : (order : Reading) (hops : ℕ) → SourceReading
  -- the same in an order that the run finds. It reads nothing for it
  FoundOrder : (hops : ℕ) → SourceReading

-- the input was read to its end, and P holds of its bytes
abbrev pub ReadsAll : Reading → (List ℕ → Type 0) → Type 0
ReadsAll input P = (bytes : List ℕ) × input.all bytes × P bytes

-- the reads of this input can give these bytes alone, up to the end. An input in memory is of this kind
abbrev pub GivesOnly : Reading → List ℕ → Type 0
GivesOnly input bytes = (given : List ℕ) → input.all given → given ≡ bytes

-- the input was read to its end and names this graph
abbrev pub ReadsGraph : Reading → Network → Type 0
ReadsGraph graph g = ReadsAll graph (λ bytes. NamesGraph bytes g)

-- the input was read to its end and names these queries on a graph with this many nodes
abbrev pub ReadsQueries : Reading → ℕ → List (ℕ × ℕ) → Type 0
ReadsQueries queries nodes pairs = ReadsAll queries (λ bytes. NamesQueries bytes nodes pairs)

-- the input was read to its end and names this list of nodes of a graph with this many nodes
abbrev pub ReadsNodes : Reading → ℕ → List ℕ → Type 0
ReadsNodes list nodes listed = ReadsAll list (λ bytes. NamesNodes bytes nodes listed)

-- the input was read to its end and names a graph
abbrev pub AcceptsGraph : Reading → Type 0
AcceptsGraph graph = (g : Network) × ReadsGraph graph g

-- an input was not read to its end, for this fault: a read failed, or there was no memory for more bytes
abbrev pub IsUnread : Which → Reading → RunFault → Type 0
IsUnread which input (RunFault.Device other) = (which ≡ other) × ((bytes : List ℕ) × input.failed bytes)
IsUnread which input RunFault.Memory = (bytes : List ℕ) × input.some bytes
IsUnread which input (RunFault.Read other fault) = ⊥
IsUnread which input RunFault.Cells = ⊥
IsUnread which input (RunFault.CellsAt line) = ⊥
IsUnread which input (RunFault.NoArcAt line) = ⊥
IsUnread which input (RunFault.FixedAt line) = ⊥
IsUnread which input (RunFault.Write count) = ⊥
IsUnread which input (RunFault.Check fault) = ⊥
IsUnread which input RunFault.Order = ⊥
IsUnread which input (RunFault.Crowded node) = ⊥

-- the faults that reading this input can end in: it is refused, it can't be read, or there is no memory
abbrev pub IsOf : Which → RunFault → Type 0
IsOf which (RunFault.Read input fault) = which ≡ input
IsOf which RunFault.Cells = ⊥
IsOf which (RunFault.CellsAt line) = which ≡ Which.Requests
IsOf which (RunFault.NoArcAt line) = which ≡ Which.Requests
IsOf which (RunFault.FixedAt line) = which ≡ Which.Requests
IsOf which RunFault.Memory = ⊤
IsOf which (RunFault.Device input) = which ≡ input
IsOf which (RunFault.Write count) = ⊥
IsOf which (RunFault.Check fault) = which ≡ Which.Saved
IsOf which RunFault.Order = which ≡ Which.Order
IsOf which (RunFault.Crowded node) = which ≡ Which.Order

-- a write of the output failed
abbrev pub IsWrite : RunFault → Type 0
IsWrite (RunFault.Write count) = ⊤
IsWrite (RunFault.Read which fault) = ⊥
IsWrite RunFault.Cells = ⊥
IsWrite (RunFault.CellsAt line) = ⊥
IsWrite (RunFault.NoArcAt line) = ⊥
IsWrite (RunFault.FixedAt line) = ⊥
IsWrite RunFault.Memory = ⊥
IsWrite (RunFault.Device which) = ⊥
IsWrite (RunFault.Check fault) = ⊥
IsWrite RunFault.Order = ⊥
IsWrite (RunFault.Crowded node) = ⊥

-- this input was refused or couldn't be read
abbrev pub StopsAt : Which → RunFault → Type 0
StopsAt which fault = IsOf which fault × (fault ≢ RunFault.Memory)

-- the run didn't stop at this input
abbrev pub GoesPast : {T : Type 0} → Which → Result T RunFault → Type 0
GoesPast which result = IfErr result (λ fault. StopsAt which fault → ⊥)

-- a failed read of the input is reported exactly if its device counted one, and it is not tried again
pub record ReadsOnce {T I : Type 0} (which : Which) (result : Result T RunFault) (failed : I → ℕ) (old new : I) : Type 0 where
  pub device : (result ≡ Err (RunFault.Device which)) ↔ (failed old < failed new)
  pub once : CountsAtMostOne (failed old) (failed new)

-- a failed write is reported exactly if the output counted one, and it is not tried again
pub record WritesOnce {T O : Type 0} (result : Result T RunFault) (failed idle : O → ℕ) (old new : O) : Type 0 where
  pub device : IsErrAnd result IsWrite ↔ ((failed old < failed new) ⊎ (idle old < idle new))
  pub once : CountsAtMostOneOf (failed old) (failed new) (idle old) (idle new)

-- the output took a text with P: the whole text if the run succeeds, its first bytes if a write failed. `gives` says what one write may do
abbrev pub Delivers : {T S : Type 0} → Result T RunFault → (gives : S → List ℕ → Result ℕ DeviceFault → S → Type 0) → (old new : S) →
    (List ℕ → Type 0) → Type 0
Delivers (Ok _) gives old new P = (text : List ℕ) × P text × Took gives old text new
Delivers (Err fault) gives old new P =
    (count : ℕ) → fault ≡ RunFault.Write count → (text : List ℕ) × P text × TookUntilFault gives old text count new
